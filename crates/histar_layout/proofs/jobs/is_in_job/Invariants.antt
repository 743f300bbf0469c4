-- The invariants and measures of `is_in_job` of src/jobs.rt.
use Rattle.std.proofs.Common.{◌≡◌, not, drop}
use Rattle.histar_layout.specs.Jobs.{is_empty, is_three, jobs_in}
use Rattle.histar_layout.proofs.Scanning.{passed}
use Rattle.histar_layout.proofs.jobs.is_in_job.Given as goal

abbrev pub invariant-loop-level : goal.invariant-loop-level
invariant-loop-level l = not (is_empty (jobs_in l.own)) ≡ not (is_empty (passed (λ e. is_three e.1) (drop l.level-index l.exceptions)))
