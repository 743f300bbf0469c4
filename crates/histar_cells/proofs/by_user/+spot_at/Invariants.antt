-- The invariants and measures of `+spot_at` of src/by_user.rt.
use Rattle.std.proofs.Common.{length}
use Rattle.histar_cells.proofs.by_user.+spot_at.Given as goal

abbrev pub decreases-spot_at : goal.decreases-spot_at
decreases-spot_at g l = length l.names.now
