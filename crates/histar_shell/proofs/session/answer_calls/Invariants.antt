-- The invariants and measures of `answer_calls` of src/session.rt.
use Rattle.std.proofs.Common.{◌≡◌}
use Rattle.histar_shell.specs.AnsweredCalls.{AnswersCalls}
use Rattle.histar_shell.specs.Memory.{StillShows}
use Rattle.histar_shell.proofs.session.answer_calls.Given as goal

abbrev pub invariant-calls : goal.invariant-calls
invariant-calls g l = record {
  answered : AnswersCalls l.fn.machine l.machine (g.W.Sink.written l.fn.writer) (g.W.Sink.written l.writer) l.yielded;
  shows : StillShows l.fn.machine l.machine;
  count : g.W.Sink.failures l.writer ≡ g.W.Sink.failures l.fn.writer;
}
