-- The invariants and measures of `Run::take_steps` of src/running.rt.
use Rattle.std.proofs.Common.{◌≡◌}
use Rattle.histar_test.proofs.RunLemmas.{HasCome}
use Rattle.histar_test.proofs.running.Run.take_steps.Given as goal

abbrev pub invariant-steps : goal.invariant-steps
invariant-steps g l = record {
  come : HasCome l.file l.fn.self l.self l.yielded (g.W.Sink.written l.fn.writer) (g.W.Sink.written l.writer);
  count : g.W.Sink.failures l.writer ≡ g.W.Sink.failures l.fn.writer;
}
