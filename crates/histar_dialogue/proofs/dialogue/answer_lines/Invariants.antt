-- The invariants and measures of `answer_lines` of src/dialogue.rt.
use Rattle.std.proofs.Common.{◌≡◌, length}
use Rattle.histar_dialogue.proofs.Talking.{Entering}
use Rattle.histar_dialogue.proofs.dialogue.answer_lines.Given as goal

abbrev pub decreases-lines : goal.decreases-lines
decreases-lines g l = length l.rest

abbrev pub invariant-lines : goal.invariant-lines
invariant-lines g l = record {
  entering : Entering l.text l.rest l.session (g.S.Shelf.saved l.fn.shelf) (g.S.Shelf.saved l.shelf) (g.W.Sink.written l.fn.writer)
      (g.W.Sink.written l.writer);
  writes : g.W.Sink.failures l.writer ≡ g.W.Sink.failures l.fn.writer;
}
