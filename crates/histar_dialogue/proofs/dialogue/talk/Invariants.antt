-- The invariants and measures of `talk` of src/dialogue.rt.
use Rattle.std.proofs.Common.{◌≡◌}
use Rattle.histar_dialogue.specs.Session.{talk_of}
use Rattle.histar_dialogue.proofs.Talking.{Going}
use Rattle.histar_dialogue.proofs.dialogue.talk.Given as goal

abbrev pub invariant-lines : goal.invariant-lines
invariant-lines g l = record {
  going : Going l.prompt (talk_of (g.S.Shelf.saved l.fn.shelf) l.fn.session) (g.R.Source.left l.fn.reader) (g.R.Source.left l.reader)
      (g.W.Sink.written l.fn.writer) (g.W.Sink.written l.writer) (g.S.Shelf.saved l.shelf) l.input l.session;
  reads : g.R.Source.failures l.reader ≡ g.R.Source.failures l.fn.reader;
  writes : g.W.Sink.failures l.writer ≡ g.W.Sink.failures l.fn.writer;
}
