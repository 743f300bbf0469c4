-- Proves the goals of `take_due` of src/login.rt that the search leaves open.
use Rattle.std.proofs.Common.{Err}
use Rattle.histar_rules.specs.declared.raw.RawCall.TheVariants.{SetLabel}
use Rattle.histar_programs.specs.declared.call_error.CallError.TheVariants.{Stopped}
use Rattle.histar_programs.proofs.Running.{before_ask, fails_so, grants, refuses}
use Rattle.histar_login.specs.Login.{label_if}
use Rattle.histar_login.proofs.LoginRuns.{takes_clearance, takes_due, takes_label, takes_none}
use Rattle.histar_login.proofs.login.take_due.Goals as goal

pub returns-in_err-label : goal.returns-in_err-label
returns-in_err-label g c =
    fails_so c.args.caller.now.thread _ c.args.kernel.now c.args.kernel.now Stopped _ c.from_residual.ensures.1
    (takes_none _ c.args.right c.args.caller.now c.args.given.owners.now c.args.own _ _ Stopped
    (before_ask c.args.caller.now.thread (SetLabel (label_if c.args.right c.args.caller.now c.args.given.owners.now c.args.own.0)) c.args.kernel.now
    c.in_err-label.ensures.memory))

pub returns-in_err-set_label : goal.returns-in_err-set_label
returns-in_err-set_label g c =
    fails_so c.args.caller.now.thread _ c.args.kernel.now c.set_label.new.self _ _ c.from_residual-in_err-set_label.ensures.1
    (takes_none _ c.args.right c.args.caller.now c.args.given.owners.now c.args.own _ _ _ (takes_label _ _ _ _ _ _ c.in_ok-label.ensures.ok.0
    (refuses _ _ _ _ _ _ c.in_err-set_label.ensures.ok c.in_err-set_label.ensures.memory)))

pub returns-in_err-set_clearance : goal.returns-in_err-set_clearance
returns-in_err-set_clearance g c =
    fails_so c.args.caller.now.thread _ c.args.kernel.now c.set_clearance.new.self _ _ c.from_residual-in_err-set_clearance.ensures.1
    (takes_due _ c.args.right c.args.caller.now c.args.given.owners.now c.args.own _ _ c.set_label.new.self
    (takes_label _ _ _ _ _ _ c.in_ok-label.ensures.ok.0 (grants _ _ _ _ tt c.in_ok-set_label.ensures.ok.0 tt)) (Err _)
    (takes_clearance _ _ _ _ _ _ c.in_ok-label.ensures.ok.1 (refuses _ _ _ _ _ _ c.in_err-set_clearance.ensures.ok
    c.in_err-set_clearance.ensures.memory)))

pub returns : goal.returns
returns g c =
    takes_due c.args.caller.now.thread c.args.right c.args.caller.now c.args.given.owners.now c.args.own c.args.kernel.now c.set_clearance.new.self
    c.set_label.new.self (takes_label _ _ _ _ _ _ c.in_ok-label.ensures.ok.0 (grants _ _ _ _ tt c.in_ok-set_label.ensures.ok.0 tt)) _
    (takes_clearance _ _ _ _ _ _ c.in_ok-label.ensures.ok.1 (grants _ _ _ _ tt c.in_ok-set_clearance.ensures.ok.0 tt))
