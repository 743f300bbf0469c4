-- The invariants and measures of `read_calls` of src/raw.rt.
use Rattle.std.proofs.Common.{length}
use Rattle.histar_examples.proofs.raw.read_calls.Given as goal

abbrev pub decreases-loop-rest : goal.decreases-loop-rest
decreases-loop-rest l = length l.rest
