-- The invariants and measures of `+path_at` of src/ways.rt.
use Rattle.std.proofs.Common.{length}
use Rattle.histar_why.proofs.ways.+path_at.Given as goal

abbrev pub decreases-path_at : goal.decreases-path_at
decreases-path_at l = length l.names.now
