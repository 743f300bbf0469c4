-- The invariants and measures of `+path_of` of src/ways.rt.
use Rattle.std.proofs.Common.{length}
use Rattle.histar_why.proofs.ways.+path_of.Given as goal

abbrev pub decreases-path_of : goal.decreases-path_of
decreases-path_of l = length l.names.now
