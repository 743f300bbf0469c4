-- How the code that gives up what a thread took runs its parts.
use Rattle.std.proofs.Common.{◌≡◌, ℕ, Option, None, Some, Result, Ok, Err, inl, refl, sym, ap, subst}
use Rattle.std.specs.Result.{IsErrAnd}
use Rattle.histar_flat.specs.declared.replies.Errno.{Errno}
use Rattle.histar_flat.specs.declared.replies.Reply.TheVariants as replies
use Rattle.histar_level.specs.Levels.{Levels}
use Rattle.histar_rules.specs.declared.raw.Denied.{Denied}
use Rattle.histar_rules.specs.declared.raw.RawCall.{RawCall}
use Rattle.histar_rules.specs.declared.raw.RawCall.TheVariants.{SetLabel, SetClearance}
use Rattle.histar_rules.specs.declared.raw.Refusal.{Refusal}
use Rattle.histar_rules.specs.declared.raw.Refusal.TheVariants as refusals
use Rattle.histar_rules.specs.Memory.{OnOutOfMemory}
use Rattle.histar_syscall.specs.KernelModel.{KernelModel, state, Called, Answered, AnsweredAs}
use Rattle.histar_syscall.proofs.Runs.{same_kernel}
use Rattle.histar_programs.specs.declared.call_error.CallError.{CallError}
use Rattle.histar_programs.specs.declared.call_error.CallError.TheVariants.{Refused, Stopped}
use Rattle.histar_programs.specs.Refusals.{errno_for, call_error_of, call_error_with}
use Rattle.histar_programs.specs.Programs.{AnswerOf, IsAnswer, Program, Part, LeadsTo, RunsPart}
use Rattle.histar_programs.specs.Programs.Program.{Answers}
use Rattle.histar_programs.proofs.Running.{asked, fails_so, onward, then_part, part_fails}
use Rattle.histar_wrap.specs.Scratch.{ask_or_give_back, give_back, gives_back_with, or_given_back, or_stops}
use Rattle.histar_wrap.specs.Steps.{ask_or_stop, restore, stopping}

-- a call that ends with an errno was denied with that errno
of_errno : (o : Option Errno) (errno : Errno) → call_error_with o ≡ Refused errno → o ≡ Some errno
of_errno None errno e = absurd cc
of_errno (Some other) errno e = ap Some (ap errno_in e)
  where
    errno_in : CallError → Errno
    errno_in (Refused found) = found
    errno_in Stopped = other

-- a call that ends without an errno was denied with none
of_none : (o : Option Errno) → call_error_with o ≡ Stopped → o ≡ None
of_none None e = refl
of_none (Some errno) e = absurd cc

module _ {M : Type 0} (t : ℕ) (call : RawCall) (old new : KernelModel) where
  -- ---- a raw call that may not be refused

  -- the raw call was granted
  pub is_granted : (answer : AnswerOf call) → Called old new t call None → IsAnswer (state old) t call answer
      → RunsPart M (ask_or_stop call) old new t (Ok answer)
  is_granted answer called right = record { done = λ rest. asked t call (or_stops rest) old new (Ok answer) (called, right) }

  -- the raw call was refused
  pub is_refused : {A : Type 0} (P : A → Type 0) (refusal : Refusal) → AnsweredAs {A = A} old new t call (Err refusal) P
      → OnOutOfMemory {A = A} (Err refusal) M → RunsPart M (ask_or_stop call) old new t (Err Stopped)
  is_refused P (refusals.Denied denied) called memory =
      record { done = λ rest. (asked t call (or_stops rest) old new (Err denied) called).begins new (same_kernel new) }
  is_refused P refusals.OutOfMemory same memory = record { done = λ rest. inl (memory, same) }

  module _ (own : Levels × Levels) where
    -- ---- a raw call at whose denial what was taken is given back

    -- the raw call was granted, and the program goes on
    pub goes_on : (answer : AnswerOf call) → Called old new t call None → IsAnswer (state old) t call answer
        → RunsPart M (ask_or_give_back own call) old new t (Ok answer)
    goes_on answer called right =
        record { done = λ rest. asked t call (or_given_back own (errno_for call) rest) old new (Ok answer) (called, right) }

    -- the raw call was denied, and the errno determines what follows
    to_give_back : (rest : AnswerOf call → Program) (denied : Denied) (o : Option Errno) → errno_for call denied ≡ o
        → Called old new t call (Some denied)
        → LeadsTo M (ask_or_give_back own call rest) old (gives_back_with own o) new t
    to_give_back rest denied o is called =
        subst (λ (e : Option Errno). LeadsTo M (ask_or_give_back own call rest) old (gives_back_with own e) new t) is
        (asked t call (or_given_back own (errno_for call) rest) old new (Err denied) called)

    -- the raw call was refused, and there is no errno to reply
    pub stops_there : {A : Type 0} (P : A → Type 0) (refusal : Refusal)
        → AnsweredAs {A = A} old new t call (Err refusal) P → OnOutOfMemory {A = A} (Err refusal) M
        → call_error_of (errno_for call) refusal ≡ Stopped → RunsPart M (ask_or_give_back own call) old new t (Err Stopped)
    stops_there P (refusals.Denied denied) called memory is =
        record { done = λ rest. (to_give_back rest denied None (of_none (errno_for call denied) is) called).begins new (same_kernel new) }
    stops_there P refusals.OutOfMemory same memory is = record { done = λ rest. inl (memory, same) }

    -- the raw call was denied with this errno
    pub leads_back : {A : Type 0} (P : A → Type 0) (refusal : Refusal) (errno : Errno)
        → AnsweredAs {A = A} old new t call (Err refusal) P → call_error_of (errno_for call) refusal ≡ Refused errno
        → (rest : AnswerOf call → Program) → LeadsTo M (ask_or_give_back own call rest) old (give_back own errno) new t
    leads_back P (refusals.Denied denied) errno called is =
        λ rest. to_give_back rest denied (Some errno) (of_errno (errno_for call denied) errno is) called
    leads_back P refusals.OutOfMemory errno same is = absurd cc

-- memory ran out before a raw call that may not be refused
pub before_asking : {M : Type 0} → (t : ℕ) (call : RawCall) (k : KernelModel) → M → RunsPart M (ask_or_stop call) k k t (Err Stopped)
before_asking t call k memory = record { done = λ rest. inl (memory, same_kernel k) }

-- ---- the thread's own label and clearance

-- what comes after the label
abbrev after_label : Levels × Levels → Unit {0} → Part (Unit {0})
after_label own done = ask_or_stop (SetClearance own.1)

module _ {M : Type 0} (t : ℕ) (old new : KernelModel) where
  -- the thread was given the expected label
  pub label_given : (label due : Levels) → label ≡ due → (answer : Result (Unit {0}) Refusal)
      → Answered old new t (SetLabel label) answer → OnOutOfMemory answer M
      → (result : Result (Unit {0}) CallError) → result ≡ stopping answer → RunsPart M (ask_or_stop (SetLabel due)) old new t result
  label_given label due same answer answered memory result is =
      subst (λ (l : Levels). RunsPart {A = Unit {0}} M (ask_or_stop (SetLabel l)) old new t result) same
      (subst (RunsPart {A = Unit {0}} M (ask_or_stop (SetLabel label)) old new t) (sym is) (by answer answered memory))
    where
      by : (outcome : Result (Unit {0}) Refusal) → Answered old new t (SetLabel label) outcome → OnOutOfMemory outcome M
          → RunsPart {A = Unit {0}} M (ask_or_stop (SetLabel label)) old new t (stopping outcome)
      by (Ok done) given memory = is_granted t (SetLabel label) old new done given.0 tt
      by (Err refusal) given memory = is_refused t (SetLabel label) old new (λ _. Unit {0}) refusal given memory

  -- the thread was given the expected clearance
  pub clearance_given : (clearance due : Levels) → clearance ≡ due → (answer : Result (Unit {0}) Refusal)
      → Answered old new t (SetClearance clearance) answer → OnOutOfMemory answer M
      → (result : Result (Unit {0}) CallError) → result ≡ stopping answer → RunsPart M (ask_or_stop (SetClearance due)) old new t result
  clearance_given clearance due same answer answered memory result is =
      subst (λ (l : Levels). RunsPart {A = Unit {0}} M (ask_or_stop (SetClearance l)) old new t result) same
      (subst (RunsPart {A = Unit {0}} M (ask_or_stop (SetClearance clearance)) old new t) (sym is) (by answer answered memory))
    where
      by : (outcome : Result (Unit {0}) Refusal) → Answered old new t (SetClearance clearance) outcome → OnOutOfMemory outcome M
          → RunsPart {A = Unit {0}} M (ask_or_stop (SetClearance clearance)) old new t (stopping outcome)
      by (Ok done) given memory = is_granted t (SetClearance clearance) old new done given.0 tt
      by (Err refusal) given memory = is_refused t (SetClearance clearance) old new (λ _. Unit {0}) refusal given memory

  module _ (own : Levels × Levels) where
    -- the label was not given
    pub label_fails : (call_error : CallError) → RunsPart M (ask_or_stop (SetLabel own.0)) old new t (Err call_error)
        → RunsPart M (restore own) old new t (Err call_error)
    label_fails call_error first = part_fails t (ask_or_stop (SetLabel own.0)) old new (after_label own) call_error first

    -- the label was given
    pub label_then : (mid : KernelModel) → RunsPart M (ask_or_stop (SetLabel own.0)) old mid t (Ok tt)
        → (result : Result (Unit {0}) CallError) → RunsPart M (ask_or_stop (SetClearance own.1)) mid new t result
        → RunsPart M (restore own) old new t result
    label_then mid first result second = then_part t (ask_or_stop (SetLabel own.0)) old new (after_label own) mid tt first result second

    -- what was taken was given up, or that stopped the call
    pub gives_back : (A : Type 0) (part : Part A) (mid : KernelModel) (errno : Errno)
        → ((rest : A → Program) → LeadsTo M (part rest) old (give_back own errno) mid t)
        → RunsPart M (restore own) mid new t (Ok tt) → RunsPart M part old new t (Err (Refused errno))
    gives_back A part mid errno first second =
        record { done = λ rest. onward t (first rest) (second.done (λ _. Answers (replies.Refused errno))) }

    pub gives_back_not : (A : Type 0) (part : Part A) (mid : KernelModel) (errno : Errno)
        → ((rest : A → Program) → LeadsTo M (part rest) old (give_back own errno) mid t) → (call_error : CallError)
        → RunsPart M (restore own) mid new t (Err call_error) → RunsPart M part old new t (Err call_error)
    gives_back_not A part mid errno first (Refused other) second =
        record { done = λ rest. onward t (first rest) (second.done (λ _. Answers (replies.Refused errno))) }
    gives_back_not A part mid errno first Stopped second =
        record { done = λ rest. (first rest).begins new (second.done (λ _. Answers (replies.Refused errno))) }

module _ {M : Type 0} (t : ℕ) (call : RawCall) (old mid : KernelModel) (own : Levels × Levels) {A : Type 0} (P : A → Type 0)
    (refusal : Refusal) (errno : Errno)
    (denied : AnsweredAs {A = A} old mid t call (Err refusal) P) (is : Refused errno ≡ call_error_of (errno_for call) refusal)
    (new : KernelModel) where
  -- the raw call was denied, and what was taken is given back
  pub given_back : RunsPart M (restore own) mid new t (Ok tt) → RunsPart M (ask_or_give_back own call) old new t (Err (Refused errno))
  given_back second =
      gives_back t old new own (AnswerOf call) (ask_or_give_back own call) mid errno
      (leads_back t call old mid own P refusal errno denied (sym is)) second

  -- the raw call was denied, and giving back what was taken stopped the call
  pub given_back_not : (call_error : CallError) (result : Result (AnswerOf call) CallError) → IsErrAnd result (λ e. e ≡ call_error)
      → RunsPart M (restore own) mid new t (Err call_error) → RunsPart M (ask_or_give_back own call) old new t result
  given_back_not call_error result gave second =
      fails_so t (ask_or_give_back own call) old new call_error result gave
      (gives_back_not t old new own (AnswerOf call) (ask_or_give_back own call) mid errno
      (leads_back t call old mid own P refusal errno denied (sym is)) call_error second)
