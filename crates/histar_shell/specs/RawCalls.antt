-- What a raw call of a thread does to a machine.
use Rattle.std.specs.Prelude.{◌≡◌, ℕ, Bool, true, false, Option, None, Some, Result, Ok, Err, IfOk, IsErr, is_err}
use Rattle.histar_rules.specs.declared.raw.Denied.{Denied}
use Rattle.histar_rules.specs.declared.raw.RawCall.{RawCall}
use Rattle.histar_syscall.specs.declared.answers.Answer.{Answer}
use Rattle.histar_syscall.specs.Answers.{IsAnswerValue}
use Rattle.histar_syscall.specs.KernelModel.{KernelModel, state, Called, IsUnchanged}
use Rattle.histar_programs.specs.declared.call_error.Stopped.{Stopped}
use Rattle.histar_shell.specs.Machine.{MachineModel, on_line}

-- the denial of an outcome, if it is one
abbrev pub denied_of : Result Answer Denied → Option Denied
denied_of (Ok answer) = None
denied_of (Err denied) = Some denied

-- The kernel made this raw call of a thread on the line, with the outcome that the rules give, and nothing else.
pub record HasMadeRaw (old new : KernelModel) (line t : ℕ) (call : RawCall) (outcome : Result Answer Denied) : Type 0 where
  pub called : Called (on_line line old) new t call (denied_of outcome)
  pub answer : IfOk outcome (IsAnswerValue (state old) t call)

-- the call was made, or memory ran out and no object has changed
abbrev pub MakesRawCall : KernelModel → KernelModel → ℕ → ℕ → RawCall → Result (Result Answer Denied) Stopped → Type 0
MakesRawCall old new line t call (Ok outcome) = HasMadeRaw old new line t call outcome
MakesRawCall old new line t call (Err stopped) = IsUnchanged (on_line line old) new

-- A machine that runs makes the raw call, and stops where memory runs out. One that has stopped does nothing.
abbrev pub AnswersRaw : Bool → MachineModel → MachineModel → ℕ → ℕ → RawCall → Result (Result Answer Denied) Stopped → Type 0
AnswersRaw true old new line t call result = IsErr result × (new ≡ old)
AnswersRaw false old new line t call result = MakesRawCall old.kernel new.kernel line t call result

-- what a raw call of a thread on a line does to a machine
pub record MakesRaw (old new : MachineModel) (line t : ℕ) (call : RawCall) (result : Result (Result Answer Denied) Stopped) : Type 0 where
  pub answered : AnswersRaw old.is_stopped old new line t call result
  pub roots : new.roots ≡ old.roots
  pub users : new.users ≡ old.users
  pub stops : new.is_stopped ≡ is_err result
