-- The entries of a line are explained, one after another.
use Rattle.std.specs.Prelude.{◌≡◌, ℕ, Bool, true, false, List, [], ◌∷◌, ◌++◌, Option, Some, None}
use Rattle.histar_object.specs.State.{State}
use Rattle.histar_rules.specs.declared.raw.Denied.{Denied}
use Rattle.histar_rules.specs.declared.raw.RawCall.{RawCall}
use Rattle.histar_rules.specs.declared.raw.RawCall.TheVariants.{OwnLabel, Read, LabelOf}
use Rattle.histar_rules.specs.Rules.{check, Leaves}
use Rattle.histar_trace.specs.declared.entries.TraceEntry.{TraceEntry}
use Rattle.histar_syscall.specs.Runs.{IsRun}
use Rattle.histar_explain.specs.declared.explanations.Explanation.{Explanation}
use Rattle.histar_explain.specs.Explanations.{ExplainsDenial}
use Rattle.histar_raw_explain.specs.Texts.{Words, explanation_text}

-- the lines are those of the explanation of a denied call at a state, and none where the call was granted
abbrev pub ExplainsOutcome : Words → State → TraceEntry → Option Denied → List ℕ → Type 0
ExplainsOutcome words s e None lines = lines ≡ []
ExplainsOutcome words s e (Some denied) lines = (x : Explanation) × ExplainsDenial s e.thread e.call denied x × (lines ≡ explanation_text words e.line e.thread x)

-- By the rules the call of an entry has its outcome at a state and leads from there to another, and the lines explain it at the first.
pub record ExplainsEntry (words : Words) (before : State) (e : TraceEntry) (lines : List ℕ) (after : State) : Type 0 where
  pub outcome : check before e.thread e.call ≡ e.denied
  pub leaves : Leaves e.denied before e.thread e.call after
  pub explains : ExplainsOutcome words before e e.denied lines

-- From the first state the rules lead to the last one by these entries, each at the state that the one before left, and the text
-- explains each denied one at the state before it.
abbrev pub ExplainsEntries : Words → State → List TraceEntry → List ℕ → State → Type 0
ExplainsEntries words s [] text last = (text ≡ []) × (last ≡ s)
ExplainsEntries words s (e ∷ entries) text last =
    (mid : State) × (lines : List ℕ) × (rest : List ℕ) × ExplainsEntry words s e lines mid × (text ≡ lines ++ rest) × ExplainsEntries words mid entries rest last

-- the entries are a run from this state on
abbrev pub IsRunFrom : State → List TraceEntry → Type 0
IsRunFrom s entries = (end : State) × IsRun s entries end

-- lines with this property were appended
abbrev pub Adds : (List ℕ → Type 0) → List ℕ → List ℕ → Type 0
Adds Holds old new = (lines : List ℕ) × (new ≡ old ++ lines) × Holds lines

-- lines that explain these entries between two states were appended
abbrev pub AddsEntries : Words → State → List TraceEntry → State → List ℕ → List ℕ → Type 0
AddsEntries words s entries last old new = Adds (λ lines. ExplainsEntries words s entries lines last) old new

-- a granted call only looks
abbrev pub only_looks : RawCall → Bool
only_looks OwnLabel = true
only_looks (Read d o) = true
only_looks (LabelOf d o) = true
only_looks call = false

-- a call with this outcome leaves the state as it was: it was denied, or it only looks
abbrev pub changes_nothing : Option Denied → RawCall → Bool
changes_nothing (Some denied) call = true
changes_nothing None call = only_looks call

-- the last state is the one to which the entries lead from the first
abbrev pub EndsAsRun : State → List TraceEntry → State → Type 0
EndsAsRun s entries last = (end : State) → IsRun s entries end → last ≡ end
