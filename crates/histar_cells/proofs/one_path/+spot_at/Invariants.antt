-- The invariants and measures of `+spot_at` of src/one_path.rt.
use Rattle.std.proofs.Common.{length}
use Rattle.histar_cells.proofs.one_path.+spot_at.Given as goal

abbrev pub decreases-spot_at : goal.decreases-spot_at
decreases-spot_at g l = length l.names.now
