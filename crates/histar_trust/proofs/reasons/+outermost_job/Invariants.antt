-- The invariants and measures of `+outermost_job` of src/reasons.rt.
use Rattle.std.proofs.Common.{length}
use Rattle.histar_trust.proofs.reasons.+outermost_job.Given as goal

abbrev pub decreases-outermost_job : goal.decreases-outermost_job
decreases-outermost_job l = length l.ancestors.now
