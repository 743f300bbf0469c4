-- Runs of raw calls, one after another.
use Rattle.std.specs.Prelude.{◌≡◌, ℕ, Bool, true, false, List, [], ◌∷◌, ◌++◌, Option, None, Some}
use Rattle.std.specs.List.{AllByRecursion, list_any}
use Rattle.histar_rules.specs.declared.raw.Denied.{Denied}
use Rattle.histar_rules.specs.declared.raw.Denied.TheVariants.{Observe, Modify, Range, Gate}
use Rattle.histar_rules.specs.declared.raw.RawCall.{RawCall}
use Rattle.histar_trace.specs.declared.entries.TraceEntry.{TraceEntry}
use Rattle.histar_object.specs.State.{State}
use Rattle.histar_rules.specs.Rules.{check, Leaves}
use Rattle.histar_syscall.specs.KernelModel.{KernelModel, state, Called, IsUnchanged}

-- The entries are a run of the kernel from one state to another: each outcome is the first failing check in the state before it, and each
-- state is the one that the call before it left.
abbrev pub IsRun : State → List TraceEntry → State → Type 0
IsRun s [] end = end ≡ s
IsRun s (e ∷ es) end = (mid : State) × (check s e.thread e.call ≡ e.denied) × Leaves e.denied s e.thread e.call mid × IsRun mid es end

-- an entry records a call of this thread on this line
abbrev pub IsBy : ℕ → ℕ → TraceEntry → Type 0
IsBy line thread e = (e.line ≡ line) × (e.thread ≡ thread)

-- The kernel came from the old state to the new by these raw calls of one thread on the line that was begun, and by nothing else: they are
-- the new end of its trace, and a run between the two states.
pub record Ran (old new : KernelModel) (thread : ℕ) (entries : List TraceEntry) : Type 0 where
  pub trace : new.trace ≡ old.trace ++ entries
  pub run : IsRun (state old) entries (state new)
  pub own : AllByRecursion (IsBy old.line thread) entries
  pub line : new.line ≡ old.line

-- refused by a comparison of labels
abbrev pub is_label_refusal : Option Denied → Bool
is_label_refusal (Some Observe) = true
is_label_refusal (Some Modify) = true
is_label_refusal (Some Gate) = true
is_label_refusal outcome = false

-- refused because a label that was handed in lies outside its range
abbrev pub is_range_refusal : Option Denied → Bool
is_range_refusal (Some Range) = true
is_range_refusal outcome = false

-- one of the calls was refused by a comparison of labels
abbrev pub some_label_refusal : List TraceEntry → Bool
some_label_refusal entries = list_any (λ e. is_label_refusal e.denied) entries

-- one of the calls was refused because of a range
abbrev pub some_range_refusal : List TraceEntry → Bool
some_range_refusal entries = list_any (λ e. is_range_refusal e.denied) entries

-- after a granted call the others are made; a refused one is the last
abbrev pub GoesOn : Option Denied → RawCall → Type 0 → KernelModel → KernelModel → Option (RawCall × Denied) → Type 0
GoesOn None call others mid new refusal = others
GoesOn (Some denied) call others mid new refusal = IsUnchanged mid new × (refusal ≡ Some (call, denied))

-- The thread made these raw calls one after another, up to the first refused one, if there is one, and nothing else.
abbrev pub Made : KernelModel → KernelModel → ℕ → List RawCall → Option (RawCall × Denied) → Type 0
Made old new thread [] refusal = IsUnchanged old new × (refusal ≡ None)
Made old new thread (call ∷ calls) refusal =
    (mid : KernelModel) × (denied : Option Denied) × Called old mid thread call denied × GoesOn denied call (Made mid new thread calls refusal) mid new refusal

-- the thread made these raw calls, and each of them was granted
abbrev pub Granted : KernelModel → KernelModel → ℕ → List RawCall → Type 0
Granted old new thread calls = Made old new thread calls None

-- the kernel made this raw call, granted or refused
abbrev pub IsMade : KernelModel → ℕ → RawCall → KernelModel → Type 0
IsMade old thread call new = (denied : Option Denied) × Called old new thread call denied

-- these threads made these raw calls one after another, the refused ones too, and nothing else
unfoldable pub MadeAll : KernelModel → List (ℕ × RawCall) → KernelModel → Type 0
MadeAll old [] new = IsUnchanged old new
MadeAll old (asked ∷ more) new = (mid : KernelModel) × IsMade old asked.0 asked.1 mid × MadeAll mid more new
