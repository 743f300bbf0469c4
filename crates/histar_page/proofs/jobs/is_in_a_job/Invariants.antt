-- The invariants and measures of `is_in_a_job` of src/jobs.rt.
use Rattle.std.proofs.Common.{◌≡◌, length}
use Rattle.histar_page.specs.Texts.{texts}
use Rattle.histar_page.specs.Drawing.{is_in_a_job}
use Rattle.histar_page.proofs.jobs.is_in_a_job.Given as goal

abbrev pub decreases-jobs : goal.decreases-jobs
decreases-jobs l = length l.rest

abbrev pub invariant-jobs : goal.invariant-jobs
invariant-jobs l = is_in_a_job (texts l.rest) l.process ≡ is_in_a_job (texts l.jobs) l.process
