-- Proves the goals of `enter_gate` of src/login.rt that the search leaves open.
use Rattle.std.proofs.Common.{ℕ, ◌+◌, ◌*◌, Result, ap, ◌∙◌}
use Rattle.histar_object.specs.declared.objects.Entry.{Entry}
use Rattle.histar_rules.specs.declared.raw.RawCall.TheVariants.{Enter}
use Rattle.histar_programs.specs.declared.call_error.CallError.{CallError}
use Rattle.histar_programs.specs.declared.call_error.CallError.TheVariants.{Stopped}
use Rattle.histar_programs.specs.Programs.{RunsPart}
use Rattle.histar_programs.specs.Parts.{ask}
use Rattle.histar_programs.proofs.Running.{grants, refuses, before_ask, fails_so}
use Rattle.histar_login.specs.Login.{entering}
use Rattle.histar_login.proofs.LoginRuns.{enters}
use Rattle.histar_login.proofs.login.enter_gate.Given as given
use Rattle.histar_login.proofs.login.enter_gate.Goals as goal
use Rattle.histar_login.proofs.login.enter_gate.Goals.{After-enter}

pub returns-in_err-wanted : goal.returns-in_err-wanted
returns-in_err-wanted g c =
    let call = entering c.args.given.now.owners.now c.args.number c.args.own.now.0 c.args.own.now.1 in
    fails_so _ _ _ _ Stopped _ c.from_residual.ensures.1 (before_ask _ call _ c.in_err-wanted.ensures.memory)

-- the gate that was entered is the user's
is_gate : (g : given.Over) (c : After-enter g) (result : Result Entry CallError)
    → RunsPart {A = Entry} g.H.Heap.Refused
    (ask (Enter c.new.result c.new-gate.result c.in_ok-wanted.wanted c.in_ok-wanted.clearance c.args.own.now.0))
    c.args.kernel.now c.enter.new.self c.args.thread result
    → RunsPart {A = Entry} g.H.Heap.Refused (ask (entering c.args.given.now.owners.now c.args.number c.args.own.now.0 c.args.own.now.1))
    c.args.kernel.now c.enter.new.self c.args.thread result
is_gate g c result =
    enters _ _ _ result _ _ _ _ _ _ c.new.ensures (c.new-gate.ensures ∙ ap (λ (n : ℕ). 2 + 2 * n) c.from.ensures) c.in_ok-wanted.ensures.ok

pub returns-in_err-entry : goal.returns-in_err-entry
returns-in_err-entry g c =
    fails_so _ _ _ _ _ _ c.from_residual-in_err-entry.ensures.1 (is_gate g (goal.at.returns-in_err-entry g c).After-enter _ (refuses _ _
    _ _ _ _ c.in_err-entry.ensures.ok c.in_err-entry.ensures.memory))

pub returns : goal.returns
returns g c =
    is_gate g (goal.at.returns g c).After-enter _ (grants _ _ _ _ _ c.in_ok-entry.ensures.ok.0 c.in_ok-entry.ensures.ok.1)
