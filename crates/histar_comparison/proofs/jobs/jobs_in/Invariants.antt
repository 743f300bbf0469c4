-- The invariants and measures of `jobs_in` of src/jobs.rt.
use Rattle.std.proofs.Common.{◌≡◌, ◌++◌, length}
use Rattle.histar_comparison.specs.Jobs.{jobs_started}
use Rattle.histar_comparison.specs.Whole.{answered}
use Rattle.histar_comparison.proofs.jobs.jobs_in.Given as goal

abbrev pub invariant-answers : goal.invariant-answers
invariant-answers g l = l.jobs.items ++ jobs_started (answered l.calls l.replies) ≡ jobs_started (answered l.fn.calls l.fn.replies)

abbrev pub decreases-answers : goal.decreases-answers
decreases-answers g l = length l.calls
