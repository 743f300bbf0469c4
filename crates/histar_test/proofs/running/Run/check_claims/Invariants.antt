-- The invariants and measures of `Run::check_claims` of src/running.rt.
use Rattle.std.proofs.Common.{◌≡◌}
use Rattle.histar_test.proofs.TestLemmas.{AreCounted}
use Rattle.histar_test.proofs.running.Run.check_claims.Given as goal

abbrev pub invariant-claims : goal.invariant-claims
invariant-claims g l = record {
  counted : AreCounted l.file l.fn.self.tally l.self.tally l.yielded (g.W.Sink.written l.fn.writer) (g.W.Sink.written l.writer);
  count : g.W.Sink.failures l.writer ≡ g.W.Sink.failures l.fn.writer;
}
