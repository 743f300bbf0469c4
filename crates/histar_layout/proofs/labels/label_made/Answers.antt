-- Proves the goals of `label_made` of src/labels.rt that the search leaves open.
use Rattle.std.proofs.Common.{◌≡◌, List, ℕ, true, false, not, subst, ap, ◌∙◌}
use Rattle.std.specs.Prelude.{IfOk}
use Rattle.histar_layout.specs.Categories.{scratch_label}
use Rattle.histar_layout.specs.Jobs.{is_empty, jobs_in}
use Rattle.histar_layout.proofs.UserOf.{made_free, made_in_jobs, not_twice}
use Rattle.histar_layout.proofs.labels.label_made.Goals as goal

pub returns-then-not-is_in_job-clause-ok : goal.returns-then-not-is_in_job-clause-ok
returns-then-not-is_in_job-clause-ok g c =
    made_free c.file_label.result c.args.own.now c.args.users.now c.user_of-user.result c.args.mode c.user_of-user.ensures
    (not_twice (is_empty (jobs_in c.args.own.now)) c.is_in_job.result true c.is_in_job.ensures (ap not c.if-not-is_in_job.true))
    c.file_label.ensures.ok

pub returns-clause-ok : goal.returns-clause-ok
returns-clause-ok g c =
    made_in_jobs c.scratch_label.result c.args.own.now c.args.users.now c.user_of-user.result c.args.mode c.user_of-user.ensures
    (not_twice (is_empty (jobs_in c.args.own.now)) c.is_in_job.result false c.is_in_job.ensures (ap not c.if-not-is_in_job.false))
    (subst
    (λ (jobs : List ℕ). IfOk c.scratch_label.result (λ label. label ≡ scratch_label c.user_of-user.result jobs))
    (c.as_slice.ensures.value ∙ c.in_ok-jobs.ensures.ok) c.scratch_label.ensures.ok)
