-- The invariants and measures of `+is_given` of src/absences.rt.
use Rattle.std.proofs.Common.{length}
use Rattle.histar_why.proofs.absences.+is_given.Given as goal

abbrev pub decreases-is_given : goal.decreases-is_given
decreases-is_given g l = length l.numbers.now
