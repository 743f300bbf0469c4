-- Proves the goals of `login_as` of src/login.rt that the search leaves open.
use Rattle.std.proofs.Common.{Ok}
use Rattle.histar_rules.specs.declared.raw.RawCall.TheVariants.{OwnLabel}
use Rattle.histar_programs.proofs.Exits.{Leaves, ends_so, further}
use Rattle.histar_programs.proofs.Running.{grants, refuses, replies_so}
use Rattle.histar_login.specs.Login.{login_as_program}
use Rattle.histar_login.proofs.LoginRuns.{after_due, after_gate, after_own, after_password, begun}
use Rattle.histar_login.proofs.login.login_as.Given as given
use Rattle.histar_login.proofs.login.login_as.Goals as goal
use Rattle.histar_login.proofs.login.login_as.Goals.{In_ok-own, In_ok-enter_gate, In_ok-right}

pub returns-in_err-own : goal.returns-in_err-own
returns-in_err-own g c =
    ends_so _ (after_own c.args.caller.now _ c.args.given.owners.now c.args.password) (begun _ _ _ _ _ _) _ _ _ c.from_residual.ensures.1
    (refuses _ OwnLabel _ _ _ _ c.in_err-own.ensures.ok c.in_err-own.ensures.memory)

-- once the thread has its own label, the gate is left
at_gate : (g : given.Over) (c : In_ok-own g)
    → Leaves g.H.Heap.Refused c.args.caller.now.thread
    (login_as_program c.args.caller.now c.args.number c.args.given.owners.now c.args.password) c.args.kernel.now
    (after_own c.args.caller.now c.args.number c.args.given.owners.now c.args.password c.in_ok-own.own) c.own_label.new.self
at_gate g c =
    further _ (after_own c.args.caller.now _ c.args.given.owners.now c.args.password) (begun _ _ _ _ _ _) _ _
    (grants _ OwnLabel _ _ _ c.in_ok-own.ensures.ok.0 c.in_ok-own.ensures.ok.1)

pub returns-in_err-enter_gate : goal.returns-in_err-enter_gate
returns-in_err-enter_gate g c =
    ends_so _ (after_gate _ _ _ _ _) (at_gate g (goal.at.returns-in_err-enter_gate g c).In_ok-own) _ _ _
    c.from_residual-in_err-enter_gate.ensures.1 c.in_err-enter_gate.ensures

-- once the gate was entered, the password is left
at_password : (g : given.Over) (c : In_ok-enter_gate g)
    → Leaves g.H.Heap.Refused c.args.caller.now.thread
    (login_as_program c.args.caller.now c.args.number c.args.given.owners.now c.args.password) c.args.kernel.now
    (after_gate c.args.caller.now c.args.number c.args.given.owners.now c.args.password c.in_ok-own.own c.in_ok-enter_gate.field-0)
    c.enter_gate.new.kernel
at_password g c =
    further _ (after_gate _ _ _ _ _) (at_gate g c.before.before.before.before.before.before) _ _ c.in_ok-enter_gate.ensures

pub returns-in_err-right : goal.returns-in_err-right
returns-in_err-right g c =
    ends_so _ (after_password _ c.args.number _ c.args.password _) (at_password g (goal.at.returns-in_err-right g c).In_ok-enter_gate) _ _ _
    c.from_residual-in_err-right.ensures.1 c.in_err-right.ensures

-- once the password was compared, the labels are left
at_due : (g : given.Over) (c : In_ok-right g)
    → Leaves g.H.Heap.Refused c.args.caller.now.thread
    (login_as_program c.args.caller.now c.args.number c.args.given.owners.now c.args.password) c.args.kernel.now
    (after_password c.args.caller.now c.args.number c.args.given.owners.now c.args.password c.in_ok-own.own c.in_ok-right.right)
    c.ask_password.new.kernel
at_due g c =
    further _ (after_password _ c.args.number _ c.args.password _) (at_password g c.before.before.before.before) _ _ c.in_ok-right.ensures

pub returns-in_err-take_due : goal.returns-in_err-take_due
returns-in_err-take_due g c =
    ends_so _ (λ (done : Unit {0}). after_due c.args.caller.now c.args.number c.args.given.owners.now c.args.password c.in_ok-right.right)
    (at_due g (goal.at.returns-in_err-take_due g c).In_ok-right) _ _ _ c.from_residual-in_err-take_due.ensures.1 c.in_err-take_due.ensures

pub returns : goal.returns
returns g c =
    let at_end =
    further _ (λ (done : Unit {0}). after_due c.args.caller.now c.args.number c.args.given.owners.now c.args.password c.in_ok-right.right)
    (at_due g (goal.at.returns g c).In_ok-right) _ tt c.in_ok-take_due.ensures in
    at_end.leads c.take_due.new.kernel (Ok _) (replies_so c.args.caller.now.thread c.take_due.new.kernel _ _ c.reply_if.ensures)
