-- The measure of `is_clear_way` of src/confinement.rt.
use Rattle.std.proofs.Common.{length}
use Rattle.histar_attack.proofs.confinement.+is_clear_way.Given as goal

abbrev pub decreases-is_clear_way : goal.decreases-is_clear_way
decreases-is_clear_way g l = length l.numbers.now
