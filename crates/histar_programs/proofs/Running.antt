-- How the code of a call runs its program, one raw call after another.
use Rattle.std.proofs.Common.{◌≡◌, ℕ, List, Option, None, Some, Result, Ok, Err, inl, inr, refl, sym, ap, ◌∙◌, subst}
use Rattle.std.specs.Result.{IsErrAnd}
use Rattle.std.proofs.lemmas.Result.{err_from_is_err_and}
use Rattle.histar_flat.specs.declared.replies.Errno.{Errno}
use Rattle.histar_flat.specs.declared.replies.Errno.TheVariants.{ENOTDIR}
use Rattle.histar_flat.specs.declared.replies.Reply.{Reply}
use Rattle.histar_flat.specs.declared.replies.Reply.TheVariants as replies
use Rattle.histar_rules.specs.declared.raw.RawCall.{RawCall}
use Rattle.histar_rules.specs.declared.raw.Refusal.{Refusal}
use Rattle.histar_rules.specs.declared.raw.Refusal.TheVariants as refusals
use Rattle.histar_rules.specs.Memory.{OnOutOfMemory}
use Rattle.histar_syscall.specs.KernelModel.{KernelModel, state, Called, Answered, AnsweredAs}
use Rattle.histar_syscall.proofs.Runs.{same_kernel}
use Rattle.histar_layout.specs.Directory.{Entries, IsDirectory}
use Rattle.histar_programs.specs.declared.call_error.Stopped.{Stopped}
use Rattle.histar_programs.specs.declared.call_error.CallError.{CallError}
use Rattle.histar_programs.specs.declared.call_error.CallError.TheVariants.{Refused, Stopped as HasStopped}
use Rattle.histar_programs.specs.Refusals.{errno_for, call_error_with, call_error_of, or_call_error, settled}
use Rattle.histar_programs.specs.Programs.{AnswerOf, IsAnswer, Outcome, Program, Asked, IsListed, Runs, Part, LeadsTo, RunsPart}
use Rattle.histar_programs.specs.Programs.Program.{Answers, Asks, Lists}
use Rattle.histar_programs.specs.Parts.{refused_with, or_refused, ask, if_there, list, given}

module _ {M : Type 0} (t : ℕ) where
  -- a program leads to itself
  pub here : (p : Program) (k : KernelModel) → LeadsTo M p k p k t
  here p k = record { completes = λ new reply c. c; begins = λ new b. b }

  -- where one program leads to a second, and that to a third, the first leads to the third
  pub onward : {a b c : Program} {k l m : KernelModel} → LeadsTo M a k b l t → LeadsTo M b l c m t → LeadsTo M a k c m t
  onward first second = record {
    completes = λ new reply c. first.completes new reply (second.completes new reply c);
    begins = λ new b. first.begins new (second.begins new b);
  }

  -- a raw call leads to what comes after its outcome
  pub asked : (call : RawCall) (next : Outcome call → Program) (old mid : KernelModel) (outcome : Outcome call)
      → Asked old mid t call outcome → LeadsTo M (Asks call next) old (next outcome) mid t
  asked call next old mid outcome is = record {
    completes = λ new reply c. (mid, outcome, is, c);
    begins = λ new b. inr (mid, outcome, is, b);
  }

  -- a program that reads bytes leads to what comes after the directory that they spell
  listed : (bytes : List ℕ) (next : Option Entries → Program) (k : KernelModel) (found : Option Entries)
      → IsListed bytes found → LeadsTo M (Lists bytes next) k (next found) k t
  listed bytes next k found is = record {
    completes = λ new reply c. (found, is, c);
    begins = λ new b. inr (found, is, b);
  }

  -- a raw call that was granted
  pub grants : (call : RawCall) (old new : KernelModel) (answer : AnswerOf call) → Called old new t call None
      → IsAnswer (state old) t call answer → RunsPart M (ask call) old new t (Ok answer)
  grants call old new answer called right =
      record { done = λ rest. asked call (or_refused (errno_for call) rest) old new (Ok answer) (called, right) }

  -- a raw call that was refused
  pub refuses : {A : Type 0} (call : RawCall) (old new : KernelModel) (P : A → Type 0) (refusal : Refusal)
      → AnsweredAs {A = A} old new t call (Err refusal) P → OnOutOfMemory {A = A} (Err refusal) M
      → RunsPart M (ask call) old new t (Err (call_error_of (errno_for call) refusal))
  refuses call old new P (refusals.Denied denied) called memory = by (errno_for call denied) refl
    where
      to : (rest : AnswerOf call → Program) (errno : Option Errno) → errno_for call denied ≡ errno
          → LeadsTo M (ask call rest) old (refused_with errno) new t
      to rest errno is =
          subst (λ (e : Option Errno). LeadsTo M (ask call rest) old (refused_with e) new t) is
          (asked call (or_refused (errno_for call) rest) old new (Err denied) called)

      by : (errno : Option Errno) → errno_for call denied ≡ errno → RunsPart M (ask call) old new t (Err (call_error_with errno))
      by None is = record { done = λ rest. (to rest None is).begins new (same_kernel new) }
      by (Some errno) is = record { done = λ rest. to rest (Some errno) is }
  refuses call old new P refusals.OutOfMemory same memory = record { done = λ rest. inl (memory, same) }

  -- a raw call, by what the kernel answered
  pub asks : (call : RawCall) (old new : KernelModel) (answer : Result (AnswerOf call) Refusal)
      → Answered old new t call answer → OnOutOfMemory answer M → (result : Result (AnswerOf call) CallError)
      → result ≡ or_call_error (errno_for call) answer → RunsPart M (ask call) old new t result
  asks call old new (Ok answer) answered memory result is =
      subst (RunsPart M (ask call) old new t) (sym is) (grants call old new answer answered.0 answered.1)
  asks call old new (Err refusal) answered memory result is =
      subst (RunsPart M (ask call) old new t) (sym is)
      (refuses call old new (IsAnswer (state old) t call) refusal answered memory)

  -- memory ran out before a raw call
  pub before_ask : (call : RawCall) (k : KernelModel) → M → RunsPart M (ask call) k k t (Err HasStopped)
  before_ask call k memory = record { done = λ rest. inl (memory, same_kernel k) }

  -- bytes spell a directory, or spell none
  pub lists : (bytes : List ℕ) (k : KernelModel) (dir : Entries) → IsDirectory bytes dir → RunsPart M (list bytes) k k t (Ok dir)
  lists bytes k dir is = record { done = λ rest. listed bytes (if_there ENOTDIR rest) k (Some dir) is }

  pub lists_none : (bytes : List ℕ) (k : KernelModel) → ((dir : Entries) → IsDirectory bytes dir → ⊥)
      → RunsPart M (list bytes) k k t (Err (Refused ENOTDIR))
  lists_none bytes k none = record { done = λ rest. listed bytes (if_there ENOTDIR rest) k None none }

  -- what was decided is passed on, or refuses the call
  pub gives : {A : Type 0} (k : KernelModel) (x : A) → RunsPart M (given (Ok x)) k k t (Ok x)
  gives k x = record { done = λ rest. here (rest x) k }

  pub gives_not : (A : Type 0) (k : KernelModel) (errno : Errno) → RunsPart {A = A} M (given (Err errno)) k k t (Err (Refused errno))
  gives_not A k errno = record { done = λ rest. here (Answers (replies.Refused errno)) k }

  -- a part that passes its result on, or refuses the call, with no raw call
  pub hands : {A : Type 0} (k : KernelModel) (x : A) → RunsPart {A = A} M (λ rest. rest x) k k t (Ok x)
  hands k x = record { done = λ rest. here (rest x) k }

  pub refuses_at_once : (A : Type 0) (k : KernelModel) (errno : Errno)
      → RunsPart {A = A} M (λ rest. Answers (replies.Refused errno)) k k t (Err (Refused errno))
  refuses_at_once A k errno = record { done = λ rest. here (Answers (replies.Refused errno)) k }

  module _ {A : Type 0} (part : Part A) (old new : KernelModel) where
    -- an error that `?` passed on
    pub fails_so : (call_error : CallError) (result : Result A CallError) → IsErrAnd result (λ e. e ≡ call_error)
        → RunsPart M part old new t (Err call_error) → RunsPart M part old new t result
    fails_so call_error result gave fails =
        let error = err_from_is_err_and result gave in
        subst (RunsPart M part old new t) (sym (error.1 ∙ ap Err error.2)) fails

    -- a part that equals another
    pub part_as : (other : Part A) → part ≡ other → (result : Result A CallError) → RunsPart M other old new t result
        → RunsPart M part old new t result
    part_as other same result runs = subst (λ (p : Part A). RunsPart M p old new t result) (sym same) runs

    -- a part, and a part after it
    module _ {B : Type 0} (after : A → Part B) where
      pub then_part : (mid : KernelModel) (x : A) → RunsPart M part old mid t (Ok x) → (result : Result B CallError)
          → RunsPart M (after x) mid new t result → RunsPart M (λ rest. part (λ y. after y rest)) old new t result
      then_part mid x first (Ok y) second = record { done = λ rest. onward (first.done (λ z. after z rest)) (second.done rest) }
      then_part mid x first (Err (Refused errno)) second = record { done = λ rest. onward (first.done (λ z. after z rest)) (second.done rest) }
      then_part mid x first (Err HasStopped) second = record { done = λ rest. (first.done (λ z. after z rest)).begins new (second.done rest) }

      pub part_fails : (call_error : CallError) → RunsPart M part old new t (Err call_error)
          → RunsPart M (λ rest. part (λ y. after y rest)) old new t (Err call_error)
      part_fails (Refused errno) first = record { done = λ rest. first.done (λ z. after z rest) }
      part_fails HasStopped first = record { done = λ rest. first.done (λ z. after z rest) }

    -- a part, and the rest of the call after it
    module _ (rest : A → Program) where
      pub then_call : (mid : KernelModel) (x : A) → RunsPart M part old mid t (Ok x) → (result : Result Reply Stopped)
          → Runs M (rest x) mid new t result → Runs M (part rest) old new t result
      then_call mid x first (Ok reply) second = record { done = (first.done rest).completes new reply second.done }
      then_call mid x first (Err stopped) second = record { done = (first.done rest).begins new second.done }

      pub call_fails : (call_error : CallError) → RunsPart M part old new t (Err call_error)
          → Runs M (part rest) old new t (settled (Err call_error))
      call_fails (Refused errno) first = record { done = (first.done rest).completes new (replies.Refused errno) (same_kernel new, refl) }
      call_fails HasStopped first = record { done = first.done rest }

  -- a call that has only its reply left
  pub says : (k : KernelModel) (reply : Reply) → Runs M (Answers reply) k k t (Ok reply)
  says k reply = record { done = (same_kernel k, refl) }

  -- an error of a whole call that `?` passed on
  pub call_fails_so : (p : Program) (old new : KernelModel) (call_error : CallError) (result : Result Reply CallError)
      → IsErrAnd result (λ e. e ≡ call_error) → Runs M p old new t (settled (Err call_error))
      → Runs M p old new t (settled result)
  call_fails_so p old new call_error result gave fails =
      let error = err_from_is_err_and result gave in
      subst (λ (r : Result Reply CallError). Runs M p old new t (settled r)) (sym (error.1 ∙ ap Err error.2)) fails

  -- a call whose program equals another
  pub runs_as : (a b : Program) (old new : KernelModel) (result : Result Reply Stopped) → a ≡ b
      → Runs M b old new t result → Runs M a old new t result
  runs_as a b old new result same runs = subst (λ (p : Program). Runs M p old new t result) (sym same) runs

  -- the reply that a call has left is the expected one
  pub replies_so : (k : KernelModel) (due reply : Reply) → reply ≡ due → Runs M (Answers due) k k t (Ok reply)
  replies_so k due reply is = record { done = (same_kernel k, is) }
