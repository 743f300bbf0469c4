-- Proves the goals of `ProcName::zero` of src/processes.rt that the search leaves open.
use Rattle.std.proofs.Common.{[], arith}
use Rattle.histar_base.specs.Padding.{padded}
use Rattle.histar_base.proofs.Padded.{padded_fits}
use Rattle.histar_flat.proofs.processes.ProcName.zero.Goals as goal

pub invariant_of-result : goal.invariant_of-result
unfolding padded
invariant_of-result c = padded_fits 7 0 [] (omega arith)
