-- The invariants and measures of `answer_calls` of src/session.rt.
use Rattle.std.proofs.Common.{◌≡◌}
use Rattle.histar_why.specs.Session.{LogsCalls}
use Rattle.histar_why.proofs.session.answer_calls.Given as goal

abbrev pub invariant-calls : goal.invariant-calls
invariant-calls g l = record {
  logged : LogsCalls l.fn.machine l.machine (g.W.Sink.written l.fn.writer) (g.W.Sink.written l.writer) l.yielded
      l.log.births.items l.log.text.items;
  count : g.W.Sink.failures l.writer ≡ g.W.Sink.failures l.fn.writer;
}
