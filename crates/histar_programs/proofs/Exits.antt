-- What is left of a call, or of a part of one, after its first parts: each exit of the code that runs it is one step from there.
use Rattle.std.proofs.Common.{◌≡◌, ℕ, Result, Ok, Err}
use Rattle.std.specs.Result.{IsErrAnd}
use Rattle.histar_flat.specs.declared.replies.Reply.{Reply}
use Rattle.histar_syscall.specs.KernelModel.{KernelModel}
use Rattle.histar_programs.specs.Programs.{Part, Program, Runs, RunsPart}
use Rattle.histar_programs.specs.Refusals.{settled}
use Rattle.histar_programs.specs.declared.call_error.CallError.{CallError}
use Rattle.histar_programs.specs.declared.call_error.Stopped.{Stopped}
use Rattle.histar_programs.proofs.Running.{call_fails, call_fails_so, fails_so, part_fails, then_call, then_part}

-- What is left of a program at a state of the kernel: a run of it completes a run of the whole.
pub record Leaves (M : Type 0) (t : ℕ) (whole : Program) (old : KernelModel) (rest : Program) (k : KernelModel) : Type 0 where
  pub leads : (new : KernelModel) (result : Result Reply Stopped) → Runs M rest k new t result → Runs M whole old new t result

module _ {M : Type 0} {t : ℕ} {whole : Program} {old k : KernelModel} {A : Type 0} (part : Part A) (rest : A → Program)
    (way : Leaves M t whole old (part rest) k) where
  -- the next part was run
  pub further : (mid : KernelModel) (x : A) → RunsPart M part k mid t (Ok x) → Leaves M t whole old (rest x) mid
  further mid x first = record { leads = λ new result on. way.leads new result (then_call t part k new rest mid x first result on) }

  -- the next part failed, and with it the call
  pub ends : (new : KernelModel) (call_error : CallError) → RunsPart M part k new t (Err call_error)
      → Runs M whole old new t (settled (Err call_error))
  ends new call_error first = way.leads new (settled (Err call_error)) (call_fails t part k new rest call_error first)

  -- the next part failed, and `?` passed its error on
  pub ends_so : (new : KernelModel) (call_error : CallError) (result : Result Reply CallError) → IsErrAnd result (λ e. e ≡ call_error)
      → RunsPart M part k new t (Err call_error) → Runs M whole old new t (settled result)
  ends_so new call_error result gave first = call_fails_so t whole old new call_error result gave (ends new call_error first)

-- What is left of a part at a state of the kernel: a run of it completes a run of the whole part.
pub record LeavesPart (M : Type 0) (C : Type 0) (t : ℕ) (whole : Part C) (old : KernelModel) (rest : Part C) (k : KernelModel) : Type 0 where
  pub leads : (new : KernelModel) (result : Result C CallError) → RunsPart M rest k new t result → RunsPart M whole old new t result

-- at first the whole part is left
pub whole_part : {M : Type 0} {C : Type 0} (t : ℕ) (whole : Part C) (old : KernelModel) → LeavesPart M C t whole old whole old
whole_part t whole old = record { leads = λ new result on. on }

module _ {M : Type 0} {t : ℕ} {C : Type 0} {whole : Part C} {old k : KernelModel} {A : Type 0} (part : Part A) (after : A → Part C)
    (way : LeavesPart M C t whole old (λ rest. part (λ x. after x rest)) k) where
  -- the next part was run
  pub further_in : (mid : KernelModel) (x : A) → RunsPart M part k mid t (Ok x) → LeavesPart M C t whole old (after x) mid
  further_in mid x first = record { leads = λ new result on. way.leads new result (then_part t part k new after mid x first result on) }

  -- the next part failed, and with it the whole part
  pub ends_in : (new : KernelModel) (call_error : CallError) → RunsPart M part k new t (Err call_error)
      → RunsPart M whole old new t (Err call_error)
  ends_in new call_error first = way.leads new (Err call_error) (part_fails t part k new after call_error first)

  -- the next part failed, and `?` passed its error on
  pub ends_in_so : (new : KernelModel) (call_error : CallError) (result : Result C CallError) → IsErrAnd result (λ e. e ≡ call_error)
      → RunsPart M part k new t (Err call_error) → RunsPart M whole old new t result
  ends_in_so new call_error result gave first = fails_so t whole old new call_error result gave (ends_in new call_error first)
