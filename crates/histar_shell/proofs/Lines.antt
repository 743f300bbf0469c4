-- What a call line does to a machine that runs.
use Rattle.std.proofs.Common.{◌≡◌, ℕ, Bool, true, false, Option, None, Some, Result, Ok, Err, inl, inr, refl, sym, subst}
use Rattle.histar_flat.specs.declared.replies.Reply.TheVariants.{Gone}
use Rattle.histar_flat.specs.declared.calls.UnixCall.{UnixCall}
use Rattle.histar_flat.specs.declared.replies.Reply.{Reply}
use Rattle.histar_flat.specs.Words.{ProcName}
use Rattle.histar_flat.specs.Accounts.{Accounts}
use Rattle.histar_syscall.specs.KernelModel.{KernelModel, state}
use Rattle.histar_programs.specs.declared.call_error.Stopped.{Stopped}
use Rattle.std.specs.Prelude.{is_err}
use Rattle.histar_programs.specs.declared.roots.Roots.{Roots}
use Rattle.histar_programs.specs.Programs.{Program, Begins, Runs}
use Rattle.histar_programs.specs.Programs.Program.{Answers, Asks, Lists, Stops}
use Rattle.histar_programs.specs.declared.caller.Caller.{Caller}
use Rattle.histar_programs.specs.Caller.{caller_at}
use Rattle.histar_shell.specs.Machine.{MachineModel, on_line, Makes, HasMade, AnswersFound, AnswersIf, AnswersLine, AnswersLineBy}

-- a process that was found had its call made
pub had_made : {M : Type 0} (old new : MachineModel) (line : ℕ) (me : ProcName) (caller : Caller) (call : UnixCall)
    (result : Result Reply Stopped) → old.is_stopped ≡ false
    → caller_at (state old.kernel) old.roots.home me ≡ Some caller → HasMade M old new line me caller call result
    → AnswersLineBy M old new line me call result
had_made {M} old new line me caller call result runs found made =
    subst (λ (b : Bool). AnswersIf M b old new line me call result) (sym runs)
    (subst (λ (o : Option Caller). AnswersFound M o old new line me call result) (sym found) made)

-- a machine that runs answers `gone` to a process that is not found
pub gone_line : (M : Type 0) (m : MachineModel) (line : ℕ) (me : ProcName) (call : UnixCall) → m.is_stopped ≡ false
    → caller_at (state m.kernel) m.roots.home me ≡ None → AnswersLineBy M m m line me call (Ok Gone)
gone_line M m line me call runs lost =
    subst (λ (b : Bool). AnswersIf M b m m line me call (Ok Gone)) (sym runs)
    (subst (λ (o : Option Caller). AnswersFound M o m m line me call (Ok Gone)) (sym lost) (refl, refl))

-- what a step of a machine has done to its parts
pub step_made : {M : Type 0} (self : MachineModel) (kernel after : KernelModel) (roots : Roots) (users : Accounts) (was is : Bool)
    (line : ℕ) (me : ProcName) (caller : Caller) (call : UnixCall) (result : Result Reply Stopped)
    → record { kernel = kernel; roots = roots; users = users; is_stopped = was } ≡ self → was ≡ false
    → caller_at (state kernel) roots.home me ≡ Some caller → Makes M users roots me caller (on_line line kernel) after call result
    → is ≡ is_err result
    → AnswersLineBy M self (record { kernel = after; roots = roots; users = users; is_stopped = is }) line me call result
step_made {M} self kernel after roots users was is line me caller call result view runs found made stops =
    let left : MachineModel = record { kernel = after; roots = roots; users = users; is_stopped = is } in
    subst (λ (m : MachineModel). AnswersLineBy M m left line me call result) view
    (had_made _ left line me caller call result runs found (record { made = made; roots = refl; users = refl; stops = stops }))

-- ---- whatever ends a line without an answer

begun_anyway : (M : Type 0) (p : Program) (old new : KernelModel) (t : ℕ) → Begins M p old new t → Begins (Unit {0}) p old new t
begun_anyway M (Answers said) old new t runs = absurd runs
begun_anyway M (Asks call next) old new t (inl ends) = inl (tt, ends.1)
begun_anyway M (Asks call next) old new t (inr runs) = inr (runs.0, runs.1, runs.2, begun_anyway M (next runs.1) runs.0 new t runs.3)
begun_anyway M (Lists bytes next) old new t (inl ends) = inl (tt, ends.1)
begun_anyway M (Lists bytes next) old new t (inr runs) = inr (runs.0, runs.1, begun_anyway M (next runs.0) old new t runs.2)
begun_anyway M Stops old new t runs = runs

runs_anyway : {M : Type 0} (p : Program) (old new : KernelModel) (t : ℕ) (result : Result Reply Stopped) → Runs M p old new t result
    → Runs (Unit {0}) p old new t result
runs_anyway p old new t (Ok reply) runs = record { done = runs.done }
runs_anyway {M} p old new t (Err stopped) runs = record { done = begun_anyway M p old new t runs.done }

found_anyway : (M : Type 0) (found : Option Caller) (old new : MachineModel) (line : ℕ) (me : ProcName) (call : UnixCall)
    (result : Result Reply Stopped) → AnswersFound M found old new line me call result → AnswersFound (Unit {0}) found old new line me call result
found_anyway M None old new line me call result answers = answers
found_anyway M (Some caller) old new line me call result answers = record {
  made = runs_anyway _ _ _ _ result answers.made;
  roots = answers.roots;
  users = answers.users;
  stops = answers.stops;
}

-- what a line does to a machine, whatever ends it without an answer
pub line_anyway : (M : Type 0) (old new : MachineModel) (line : ℕ) (me : ProcName) (call : UnixCall) (result : Result Reply Stopped)
    → AnswersLineBy M old new line me call result → AnswersLine old new line me call result
line_anyway M old new line me call result answers = by old.is_stopped answers
  where
    by : (b : Bool) → AnswersIf M b old new line me call result → AnswersIf (Unit {0}) b old new line me call result
    by true k = k
    by false k = found_anyway M (caller_at (state old.kernel) old.roots.home me) old new line me call result k
