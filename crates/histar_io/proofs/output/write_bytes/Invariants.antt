-- The invariants and measures of `write_bytes` of src/output.rt.
use Rattle.std.proofs.Common.{◌≡◌, length}
use Rattle.histar_io.specs.Writing.{AppendsUpTo}
use Rattle.histar_io.proofs.output.write_bytes.Given as goal

abbrev pub invariant-rest : goal.invariant-rest
invariant-rest g l = record {
  sent : AppendsUpTo (g.W.Sink.written l.fn.writer) (g.W.Sink.written l.writer) l.bytes l.rest;
  count : g.W.Sink.failures l.writer ≡ g.W.Sink.failures l.fn.writer;
}

abbrev pub decreases-rest : goal.decreases-rest
decreases-rest g l = length l.rest
