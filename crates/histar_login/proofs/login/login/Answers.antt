-- Proves the goals of `login` of src/login.rt that the search leaves open.
use Rattle.std.proofs.Common.{◌≡◌, Result, Ok, sym, ap, ◌∙◌}
use Rattle.std.specs.Result.{IsErrAnd}
use Rattle.histar_flat.specs.declared.replies.Reply.{Reply}
use Rattle.histar_rules.specs.declared.raw.RawCall.TheVariants.{OwnLabel}
use Rattle.histar_layout.specs.Categories.{owners_of}
use Rattle.histar_programs.specs.declared.call_error.CallError.{CallError}
use Rattle.histar_programs.specs.declared.call_error.CallError.TheVariants.{Stopped}
use Rattle.histar_programs.specs.Refusals.{settled}
use Rattle.histar_programs.specs.Programs.{Runs}
use Rattle.histar_programs.proofs.Exits.{ends_so}
use Rattle.histar_programs.proofs.Running.{says, runs_as, before_ask}
use Rattle.histar_login.specs.Login.{login_program}
use Rattle.histar_login.proofs.LoginRuns.{after_own, begun}
use Rattle.histar_login.proofs.Numbers.{login_of, login_numbered}
use Rattle.histar_login.proofs.login.login.Given as given
use Rattle.histar_login.proofs.login.login.Goals as goal
use Rattle.histar_login.proofs.login.login.Goals.{In-Some}

pub returns-in_default : goal.returns-in_default
returns-in_default g c =
    runs_as c.args.unix.now.caller.now.thread _ _ c.args.kernel.now _ (Ok _)
    (login_numbered c.args.unix.now.users.now c.args.unix.now.caller.now c.args.name c.args.password
    ∙ ap (login_of c.args.unix.now.users.now c.args.unix.now.caller.now c.args.name c.args.password)
    (sym c.number_of.ensures.number ∙ c.in_default.is)) (says _ _ _)

-- memory ran out before the first raw call of a login as the user of a number
runs_out : (g : given.Over) (c : In-Some g) → g.H.Heap.Refused → (result : Result Reply CallError) → IsErrAnd result (λ e. e ≡ Stopped)
    → Runs g.H.Heap.Refused (login_program c.args.unix.now.users.now c.args.unix.now.caller.now c.args.name c.args.password)
    c.args.kernel.now c.args.kernel.now c.args.unix.now.caller.now.thread (settled result)
runs_out g c memory result gave =
    let owners = owners_of c.args.unix.now.users.now c.in-Some.number c.args.name in
    runs_as c.args.unix.now.caller.now.thread _ _ c.args.kernel.now c.args.kernel.now (settled result)
    (login_numbered c.args.unix.now.users.now c.args.unix.now.caller.now c.args.name c.args.password
    ∙ ap (login_of c.args.unix.now.users.now c.args.unix.now.caller.now c.args.name c.args.password)
    (sym c.number_of.ensures.number ∙ c.in-Some.is))
    (ends_so _ (after_own _ _ owners c.args.password) (begun _ _ owners _ _ _) _ Stopped result gave (before_ask _ OwnLabel _ memory))

pub returns-in_err-owners : goal.returns-in_err-owners
returns-in_err-owners g c = runs_out g (goal.at.returns-in_err-owners g c).In-Some c.in_err-owners.ensures.memory _ c.from_residual.ensures.1

pub returns-in_err-given : goal.returns-in_err-given
returns-in_err-given g c =
    runs_out g (goal.at.returns-in_err-given g c).In-Some c.in_err-given.ensures.memory _ c.from_residual-in_err-given.ensures.1
