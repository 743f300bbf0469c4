-- Verdicts of worked scripts, computed.
use Rattle.std.specs.Prelude.{[], codes, refl, ◌∷◌, ◌≡◌}
use Rattle.std.specs.Fmt.{digits}
use Rattle.histar_flat.proofs.WorkedRuns.{calls_around_a_job, calls_of_a_job_with_a_job_in_it, calls_of_a_members_job, calls_of_an_inner_job}
use Rattle.histar_flat.proofs.WorkedRuns.{calls_on_output, calls_that_end_in_a_rmdir, calls_with_a_further_wrap, calls_with_a_rmdir}
use Rattle.histar_flat.proofs.WorkedRuns.{calls_with_an_inner_rmdir}
use Rattle.histar_flat.proofs.WorkedScripts.{three_users, with_a_team}
use Rattle.histar_noninterference.specs.Comparison.{verdict}
use Rattle.histar_noninterference.specs.declared.verdict.Verdict.TheVariants.{Line, NoJob, Same, Tree}
use Rattle.histar_noninterference.proofs.Isolated.{isolates_jobs}

-- only the process that started the job notices it
pub around_a_job : verdict three_users calls_around_a_job (1 ∷ 1 ∷ []) ≡ Same
unfolding digits
around_a_job = refl

-- the law gives the same verdict
pub around_a_job_by_law : verdict three_users calls_around_a_job (1 ∷ 1 ∷ []) ≡ Same
unfolding digits
around_a_job_by_law = isolates_jobs three_users calls_around_a_job (1 ∷ 1 ∷ []) refl refl

-- a process that a `spawn` started is no job
pub of_no_job : verdict three_users calls_around_a_job (2 ∷ []) ≡ NoJob
unfolding digits
of_no_job = refl

-- a `rmdir` by the process that started the job reveals it
pub with_a_rmdir : verdict three_users calls_with_a_rmdir (1 ∷ 1 ∷ []) ≡ Line 13
unfolding digits
with_a_rmdir = refl

-- without a later line the tree reveals it
pub at_the_end_a_rmdir : verdict three_users calls_that_end_in_a_rmdir (1 ∷ 1 ∷ []) ≡ Tree (codes "j" ∷ codes "tmp" ∷ [])
unfolding digits
at_the_end_a_rmdir = refl

-- a further `wrap` reveals it
pub with_a_further_wrap : verdict three_users calls_with_a_further_wrap (1 ∷ 1 ∷ []) ≡ Line 13
unfolding digits
with_a_further_wrap = refl

-- the process that started a job uses what it made
pub on_output : verdict three_users calls_on_output (1 ∷ 1 ∷ []) ≡ Same
unfolding digits
on_output = refl

-- a job in a job
pub of_an_inner_job : verdict three_users calls_of_an_inner_job (1 ∷ 1 ∷ 1 ∷ []) ≡ Same
unfolding digits
of_an_inner_job = refl

-- the outer job's `rmdir` reveals the inner one
pub with_an_inner_rmdir : verdict three_users calls_with_an_inner_rmdir (1 ∷ 1 ∷ 1 ∷ []) ≡ Line 14
unfolding digits
with_an_inner_rmdir = refl

-- a job, with all that it and a job in it do
pub of_a_job_with_a_job_in_it : verdict three_users calls_of_a_job_with_a_job_in_it (1 ∷ 1 ∷ []) ≡ Same
unfolding digits
of_a_job_with_a_job_in_it = refl

-- a member's job at a file of the group
pub of_a_members_job : verdict with_a_team calls_of_a_members_job (1 ∷ 2 ∷ []) ≡ Same
unfolding digits
of_a_members_job = refl
