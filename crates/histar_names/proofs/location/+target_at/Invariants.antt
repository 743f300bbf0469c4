-- The invariants and measures of `+target_at` of src/location.rt.
use Rattle.std.proofs.Common.{length}
use Rattle.histar_names.proofs.location.+target_at.Given as goal

abbrev pub decreases-target_at : goal.decreases-target_at
decreases-target_at g l = length l.names.now
