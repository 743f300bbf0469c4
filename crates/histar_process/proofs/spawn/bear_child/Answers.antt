-- Proves the goals of `bear_child` of src/spawn.rt that the search leaves open.
use Rattle.std.proofs.Common.{◌∙◌}
use Rattle.histar_programs.proofs.Running.{fails_so}
use Rattle.histar_programs.specs.Kin.{kin_of}
use Rattle.histar_process.proofs.Calling.{before_birth, born_so, kin_is}
use Rattle.histar_process.proofs.spawn.bear_child.Goals as goal

pub returns-in_err-jobs : goal.returns-in_err-jobs
returns-in_err-jobs g c status is =
    fails_so _ _ _ _ _ _ c.from_residual.ensures.1 (before_birth _ _ status _ _ c.in_err-jobs.ensures.memory)

pub returns-in_err-owned : goal.returns-in_err-owned
returns-in_err-owned g c status is =
    fails_so _ _ _ _ _ _ c.from_residual-in_err-owned.ensures.1 (before_birth _ _ status _ _ c.in_err-owned.ensures.memory)

pub returns : goal.returns
returns g c status is =
    let accounts = c.args.unix.now.users.now in
    let own = c.args.own.now in
    let kin_so =
    kin_is own accounts c.user_of.result c.is_in_job.result c.as_slice.result.now c.as_slice-2.result.now
    c.user_of.ensures c.is_in_job.ensures (c.as_slice.ensures.value ∙ c.in_ok-owned.ensures.ok)
    (c.as_slice-2.ensures.value ∙ c.in_ok-jobs.ensures.ok) in
    born_so c.args.unix.now.caller.now.thread c.args.kernel.now c.give_birth.new.kernel c.args.unix.now.caller.now.home status _ (kin_of accounts own)
    kin_so c.give_birth.result (c.give_birth.ensures status is)
