-- The denied calls of a raw session are explained after its answers.
use Rattle.std.specs.Prelude.{◌≡◌, ℕ, ◌⊎◌, ◌-◌, List, [], ◌∷◌, ◌++◌, length, Option, Some, None, Result, MatchOption}
use Rattle.std.specs.List.{slice_get}
use Rattle.std.specs.Io.KnownBytes.{Appends}
use Rattle.histar_io.specs.Writing.{AppendsFront}
use Rattle.histar_object.specs.State.{State, empty_state}
use Rattle.histar_rules.specs.declared.raw.Denied.{Denied}
use Rattle.histar_rules.specs.declared.raw.RawCall.{RawCall}
use Rattle.histar_rules.specs.Rules.{check, Leaves}
use Rattle.histar_script.specs.declared.fault.Fault.{Fault}
use Rattle.histar_trace.specs.declared.entries.TraceEntry.{TraceEntry}
use Rattle.histar_syscall.specs.KernelModel.{KernelModel, state}
use Rattle.histar_raw_session.specs.declared.read_session.RawLine.{RawLine}
use Rattle.histar_raw_session.specs.Session.{IsSession}
use Rattle.histar_raw_session.specs.Answers.{PrintsCalls, BeginsAnswers}
use Rattle.histar_raw_session.specs.Run.{RunsText}
use Rattle.histar_explain.specs.declared.explanations.Explanation.{Explanation}
use Rattle.histar_explain.specs.Explanations.{ExplainsDenial}
use Rattle.histar_raw_explain.specs.Texts.{raw_words, explanation_text}

-- the lines are those of the explanation of a denial at a state, and none where the call was granted
abbrev pub ExplainsCall : State → ℕ → ℕ → RawCall → Option Denied → List ℕ → Type 0
ExplainsCall s line thread call None lines = lines ≡ []
ExplainsCall s line thread call (Some denied) lines = (e : Explanation) × ExplainsDenial s thread call denied e × (lines ≡ explanation_text raw_words line thread e)

-- the lines explain the last call of a kernel, if one was made
abbrev pub ExplainsLast : KernelModel → List ℕ → Type 0
ExplainsLast k lines = MatchOption (slice_get k.trace (length k.trace - 1)) (lines ≡ []) (λ (e : TraceEntry). ExplainsCall (state k) e.line e.thread e.call e.denied lines)

-- By the rules the call leads from one state to another, granted or denied, and the lines explain it at the state before it.
pub record ExplainsOne (before after : State) (asked : RawLine) (lines : List ℕ) : Type 0 where
  pub denied : Option Denied
  pub outcome : check before asked.thread asked.call ≡ denied
  pub leaves : Leaves denied before asked.thread asked.call after
  pub explains : ExplainsCall before asked.line asked.thread asked.call denied lines

-- By the rules these calls lead from the first state to the last one, each from the state that the one before left, and the text explains
-- each denied call at the state before it.
abbrev pub ExplainsCalls : State → List RawLine → List ℕ → State → Type 0
ExplainsCalls s [] text last = (text ≡ []) × (last ≡ s)
ExplainsCalls s (asked ∷ calls) text last =
    (mid : State) × (lines : List ℕ) × (rest : List ℕ) × ExplainsOne s mid asked lines × (text ≡ lines ++ rest) × ExplainsCalls mid calls rest last

-- each call has its outcome by the rules, the lines of the outcomes were written, and after them the explanations
pub record ExplainsAnswered (before after : State) (old new : Option (List ℕ)) (calls : List RawLine) : Type 0 where
  pub answers : List ℕ
  pub explanations : List ℕ
  pub prints : PrintsCalls before calls answers after
  pub explains : ExplainsCalls before calls explanations after
  pub written : Appends old new (answers ++ explanations)

-- the same, where only a beginning was written
pub record BeginsExplanations (before : State) (old new : Option (List ℕ)) (calls : List RawLine) : Type 0 where
  pub last : State
  pub answers : List ℕ
  pub explanations : List ℕ
  pub prints : PrintsCalls before calls answers last
  pub explains : ExplainsCalls before calls explanations last
  pub written : AppendsFront old new (answers ++ explanations)

-- a beginning of the answers was written, or all of them and a beginning of the explanations
abbrev pub BeginsExplaining : State → Option (List ℕ) → Option (List ℕ) → List RawLine → Type 0
BeginsExplaining before old new calls = BeginsAnswers before old new calls ⊎ BeginsExplanations before old new calls

-- the text is a raw session, each of its calls was answered, from the empty kernel on, and after all answers each denied one was explained
pub record ExplainsSession (text : List ℕ) (old new : Option (List ℕ)) : Type 0 where
  pub calls : List RawLine
  pub is : IsSession text calls
  pub last : State
  pub explained : ExplainsAnswered empty_state last old new calls

-- the text is a raw session, and a beginning of its answers and their explanations was written
pub record BeginsExplained (text : List ℕ) (old new : Option (List ℕ)) : Type 0 where
  pub calls : List RawLine
  pub is : IsSession text calls
  pub begun : BeginsExplaining empty_state old new calls

-- The text was run as a raw session, and its calls were answered and explained as far as the result says.
abbrev pub RunsExplained : List ℕ → Option (List ℕ) → Option (List ℕ) → Result (Unit {0}) Fault → Type 0
RunsExplained = RunsText ExplainsSession BeginsExplained
