-- Proves the goals of `start_job` of src/wrap.rt that the search leaves open.
use Rattle.histar_rules.specs.declared.raw.RawCall.TheVariants.{MakeCategory, OwnLabel}
use Rattle.histar_programs.proofs.Running.{fails_so, refuses}
use Rattle.histar_wrap.proofs.Wrapping.{before_filling, filled_so, no_category, no_labels, with_category}
use Rattle.histar_wrap.proofs.wrap.start_job.Goals as goal

pub returns-in_err-own : goal.returns-in_err-own
returns-in_err-own g c status is =
    no_labels c.args.unix.now.users.now _ status _ _ _ _ _ _ c.from_residual.ensures.1 (refuses _ OwnLabel _ _ _ _ c.in_err-own.ensures.ok
    c.in_err-own.ensures.memory)

pub returns-in_err-job : goal.returns-in_err-job
returns-in_err-job g c status is =
    no_category c.args.unix.now.users.now _ status _ _ _ _ _
    c.in_ok-own.ensures.ok _ _ _ c.from_residual-in_err-job.ensures.1 (refuses _ MakeCategory _ _ _ _ c.in_err-job.ensures.ok
    c.in_err-job.ensures.memory)

pub returns-in_err-plan : goal.returns-in_err-plan
returns-in_err-plan g c status is =
    fails_so _ _ _ _ _ _ c.from_residual-in_err-plan.ensures.1 ((with_category c.args.unix.now.users.now _ status _ _ _ _ _
    c.in_ok-own.ensures.ok _ _ c.in_ok-job.ensures.ok).leads _ _ (before_filling _ _ status _ _ _
    c.in_err-plan.ensures.memory))

pub returns : goal.returns
returns g c status is =
    (with_category c.args.unix.now.users.now _ status _ _ _ _ _ c.in_ok-own.ensures.ok _ _ c.in_ok-job.ensures.ok).leads _ _
    (filled_so _ status _ _ _ _ _ c.in_ok-plan.ensures.plan _ _ c.in_ok-plan.ensures.thread _ (c.fill_job.ensures status is))
