-- The invariants and measures of `+path_of` of src/location.rt.
use Rattle.std.proofs.Common.{length}
use Rattle.histar_names.proofs.location.+path_of.Given as goal

abbrev pub decreases-path_of : goal.decreases-path_of
decreases-path_of l = length l.names.now
