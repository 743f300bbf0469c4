-- A call of the Unix library as a program of raw calls: what it asks the kernel next, by what the kernel answered so far.
use Rattle.std.specs.Prelude.{◌≡◌, ℕ, List, Option, None, Some, Result, Ok, Err, MatchOption, ◌⊎◌}
use Rattle.histar_flat.specs.declared.replies.Reply.{Reply}
use Rattle.histar_flat.specs.declared.replies.Reply.TheVariants as replies
use Rattle.histar_rules.specs.declared.raw.Denied.{Denied}
use Rattle.histar_rules.specs.declared.raw.RawCall.{RawCall}
pub use Rattle.histar_rules.specs.RawAnswers.{AnswerOf, IsAnswer}
use Rattle.histar_syscall.specs.KernelModel.{KernelModel, state, Called, IsUnchanged}
use Rattle.histar_layout.specs.Directory.{Entries, IsDirectory}
use Rattle.histar_programs.specs.declared.call_error.CallError.{CallError}
use Rattle.histar_programs.specs.declared.call_error.CallError.TheVariants.{Refused, Stopped as HasStopped}
use Rattle.histar_programs.specs.declared.call_error.Stopped.{Stopped}

-- the outcome of a raw call: its answer, or why it is denied
abbrev pub Outcome : RawCall → Type 0
Outcome call = Result (AnswerOf call) Denied

-- A program replies; or it asks the kernel, and goes on by the outcome; or it reads bytes as a directory, if they spell one, and
-- and goes on by that; or it stops without a reply.
pub data Program : Type 0 where
  Answers : Reply → Program
  Asks : (call : RawCall) → (Outcome call → Program) → Program
  Lists : List ℕ → (Option Entries → Program) → Program
  Stops : Program

-- the thread made this raw call, with this outcome
abbrev pub Asked : KernelModel → KernelModel → ℕ → (call : RawCall) → Outcome call → Type 0
Asked old new thread call (Ok answer) = Called old new thread call None × IsAnswer (state old) thread call answer
Asked old new thread call (Err denied) = Called old new thread call (Some denied)

-- bytes spell this directory, or spell none
abbrev pub IsListed : List ℕ → Option Entries → Type 0
IsListed bytes listed = MatchOption listed ((dir : Entries) → IsDirectory bytes dir → ⊥) (IsDirectory bytes)

-- The thread made the raw calls of the program, one after another, each with the outcome that the rules give at that point, and
-- did nothing else; and this is the program's reply.
abbrev pub Completes : Program → KernelModel → KernelModel → ℕ → Reply → Type 0
Completes (Answers said) old new thread reply = IsUnchanged old new × (reply ≡ said)
Completes (Asks call next) old new thread reply =
    (mid : KernelModel) × (outcome : Outcome call) × Asked old mid thread call outcome × Completes (next outcome) mid new thread reply
Completes (Lists bytes next) old new thread reply = (listed : Option Entries) × IsListed bytes listed × Completes (next listed) old new thread reply
Completes Stops old new thread reply = ⊥

-- The thread made the first raw calls of the program in this way, and ended without a reply: memory ran out with something still to do,
-- which `M` says, or the program stops. A program that has only its reply left doesn't end in this way.
abbrev pub Begins : Type 0 → Program → KernelModel → KernelModel → ℕ → Type 0
Begins M (Answers said) old new thread = ⊥
Begins M (Asks call next) old new thread =
    (M × IsUnchanged old new)
    ⊎ ((mid : KernelModel) × (outcome : Outcome call) × Asked old mid thread call outcome × Begins M (next outcome) mid new thread)
Begins M (Lists bytes next) old new thread =
    (M × IsUnchanged old new) ⊎ ((listed : Option Entries) × IsListed bytes listed × Begins M (next listed) old new thread)
Begins M Stops old new thread = IsUnchanged old new

-- what a run of a program has done: it is completed, or only begun
abbrev pub RunsTo : Type 0 → Program → KernelModel → KernelModel → ℕ → Result Reply Stopped → Type 0
RunsTo M program old new thread (Ok reply) = Completes program old new thread reply
RunsTo M program old new thread (Err stopped) = Begins M program old new thread

-- A call runs its program: up to its reply, or only the beginning of it. `M` says that memory ran out.
pub record Runs (M : Type 0) (program : Program) (old new : KernelModel) (thread : ℕ) (result : Result Reply Stopped) : Type 0 where
  pub done : RunsTo M program old new thread result

-- a part of a program: it passes what it has found to what comes after it
abbrev pub Part : Type 0 → Type 0
Part A = (A → Program) → Program

-- the thread has come from the first program to the later one: a run of the later one completes a run of the first
pub record LeadsTo (M : Type 0) (first : Program) (old : KernelModel) (later : Program) (mid : KernelModel) (thread : ℕ) : Type 0 where
  pub completes : (new : KernelModel) (reply : Reply) → Completes later mid new thread reply → Completes first old new thread reply
  pub begins : (new : KernelModel) → Begins M later mid new thread → Begins M first old new thread

-- what a run of a part of a program has done: it has come to what comes after the part, or to the reply of a refusal, or is only begun
abbrev pub RunsPartTo : {A : Type 0} → Type 0 → Part A → KernelModel → KernelModel → ℕ → Result A CallError → Type 0
RunsPartTo {A} M part old new thread (Ok found) = (rest : A → Program) → LeadsTo M (part rest) old (rest found) new thread
RunsPartTo {A} M part old new thread (Err (Refused errno)) =
    (rest : A → Program) → LeadsTo M (part rest) old (Answers (replies.Refused errno)) new thread
RunsPartTo {A} M part old new thread (Err HasStopped) = (rest : A → Program) → Begins M (part rest) old new thread

-- Code runs a part of a program: it made the raw calls of the part and passes its result on; or it made them and the call is
-- refused; or it made the first of them and the call stops. `M` says that memory ran out.
pub record RunsPart {A : Type 0} (M : Type 0) (part : Part A) (old new : KernelModel) (thread : ℕ) (result : Result A CallError) : Type 0 where
  pub done : RunsPartTo M part old new thread result
