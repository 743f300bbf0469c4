-- The invariants and measures of `jobs_in` of src/jobs.rt.
use Rattle.std.proofs.Common.{◌≡◌, ◌++◌, drop}
use Rattle.histar_layout.specs.Jobs.{is_three, jobs_in}
use Rattle.histar_layout.proofs.Scanning.{passed}
use Rattle.histar_layout.proofs.jobs.jobs_in.Given as goal

abbrev pub invariant-loop-category : goal.invariant-loop-category
invariant-loop-category g l = l.jobs.items ++ passed (λ e. is_three e.1) (drop l.category-index l.exceptions) ≡ jobs_in l.own
