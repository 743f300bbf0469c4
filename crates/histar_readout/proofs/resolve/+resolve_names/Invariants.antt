-- The invariants and measures of `+resolve_names` of src/resolve.rt.
use Rattle.std.proofs.Common.{length}
use Rattle.histar_readout.proofs.resolve.+resolve_names.Given as goal

abbrev pub decreases-resolve_names : goal.decreases-resolve_names
decreases-resolve_names g l = length l.names.now
