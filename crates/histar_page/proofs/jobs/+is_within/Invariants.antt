-- The invariants and measures of `+is_within` of src/jobs.rt.
use Rattle.std.proofs.Common.{length}
use Rattle.histar_page.proofs.jobs.+is_within.Given as goal

abbrev pub decreases-is_within : goal.decreases-is_within
decreases-is_within l = length l.job.now
