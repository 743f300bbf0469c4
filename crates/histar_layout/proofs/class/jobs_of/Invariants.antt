-- The invariants and measures of `jobs_of` of src/class.rt.
use Rattle.std.proofs.Common.{◌≡◌, ◌++◌, drop}
use Rattle.std.specs.Prelude.{◌&&◌, nat_le}
use Rattle.histar_layout.specs.ClassLabels.{first_after_groups, jobs_of}
use Rattle.histar_layout.specs.Jobs.{is_three}
use Rattle.histar_layout.proofs.Scanning.{passed}
use Rattle.histar_layout.proofs.class.jobs_of.Given as goal

abbrev pub invariant-loop-category : goal.invariant-loop-category
invariant-loop-category g l =
    l.jobs.items ++ passed (λ e. is_three e.1 && nat_le (first_after_groups l.users) e.0) (drop l.category-index l.exceptions)
    ≡ jobs_of l.users l.label
