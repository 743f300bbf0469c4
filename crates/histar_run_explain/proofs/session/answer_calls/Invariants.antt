-- The invariants and measures of `answer_calls` of src/session.rt.
use Rattle.std.proofs.Common.{◌≡◌}
use Rattle.histar_syscall.specs.KernelModel.{state}
use Rattle.histar_run_explain.specs.Session.{ExplainsCalls}
use Rattle.histar_run_explain.proofs.session.answer_calls.Given as goal

abbrev pub invariant-calls : goal.invariant-calls
invariant-calls g l = record {
  explained : ExplainsCalls l.fn.machine l.machine (g.W.Sink.written l.fn.writer) (g.W.Sink.written l.writer) l.yielded
      l.explainer.text.items l.explainer.births.items;
  same : state l.explainer.second ≡ state l.machine.kernel;
  count : g.W.Sink.failures l.writer ≡ g.W.Sink.failures l.fn.writer;
}
