-- The invariants and measures of `answer_calls` of src/session.rt.
use Rattle.std.proofs.Common.{◌≡◌}
use Rattle.histar_syscall.specs.KernelModel.{state}
use Rattle.histar_raw_session.specs.Answers.{AnswersCalls}
use Rattle.histar_raw_session.proofs.session.answer_calls.Given as goal

abbrev pub invariant-calls : goal.invariant-calls
invariant-calls g l = record {
  answered : AnswersCalls (state l.fn.kernel) (state l.kernel) (g.W.Sink.written l.fn.writer) (g.W.Sink.written l.writer) l.yielded;
  count : g.W.Sink.failures l.writer ≡ g.W.Sink.failures l.fn.writer;
}
