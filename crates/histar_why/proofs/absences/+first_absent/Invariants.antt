-- The invariants and measures of `+first_absent` of src/absences.rt.
use Rattle.std.proofs.Common.{length}
use Rattle.histar_why.proofs.absences.+first_absent.Given as goal

abbrev pub decreases-first_absent : goal.decreases-first_absent
decreases-first_absent g l = length l.numbers.now
