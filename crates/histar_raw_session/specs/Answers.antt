-- The kernel answers the calls of a raw session one after another, and its answers are written.
use Rattle.std.specs.Prelude.{◌≡◌, ℕ, ◌⊎◌, List, [], ◌∷◌, ◌++◌, codes, decimal, Option, Some, None, Result, Ok, Err}
use Rattle.std.specs.Io.KnownBytes.{Appends, Keeps}
use Rattle.histar_io.specs.Writing.{AppendsFront}
use Rattle.histar_object.specs.State.{State}
use Rattle.histar_rules.specs.declared.raw.Denied.{Denied}
use Rattle.histar_rules.specs.declared.raw.RawCall.{RawCall}
use Rattle.histar_rules.specs.Rules.{check, Changes}
use Rattle.histar_syscall.specs.declared.answers.Answer.{Answer}
use Rattle.histar_syscall.specs.Answers.{IsAnswerValue}
use Rattle.histar_syscall.specs.KernelModel.{KernelModel}
use Rattle.histar_syscall.specs.Runs.{IsMade}
use Rattle.histar_rawtext.specs.RawText.{answer_text, denied_text}
use Rattle.histar_raw_session.specs.declared.read_session.RawLine.{RawLine}

-- By the rules a call of a thread has this outcome and leaves this state: where no check fails, the answer that the state gives and the
-- changed state, and otherwise the first failing check and the old state.
abbrev pub HasOutcome : State → ℕ → RawCall → Result Answer Denied → State → Type 0
HasOutcome s t call (Ok answered) new = (check s t call ≡ None) × IsAnswerValue s t call answered × Changes s t call new
HasOutcome s t call (Err denied) new = (check s t call ≡ Some denied) × (new ≡ s)

-- the line of an outcome: the number of the call line, and an equals sign and the answer, or the denial's name
abbrev pub line_text : ℕ → Result Answer Denied → List ℕ
line_text number (Ok answered) = decimal number ++ codes " = " ++ answer_text answered ++ codes "\n"
line_text number (Err denied) = decimal number ++ codes " " ++ denied_text denied ++ codes "\n"

-- the call has an outcome by the rules, and the line prints it
pub record PrintsCall (before after : State) (asked : RawLine) (line : List ℕ) : Type 0 where
  pub outcome : Result Answer Denied
  pub has : HasOutcome before asked.thread asked.call outcome after
  pub prints : line ≡ line_text asked.line outcome

-- By the rules these calls lead from the first state to the last one, each from the state that the one before left, and the text is the
-- lines of their outcomes.
abbrev pub PrintsCalls : State → List RawLine → List ℕ → State → Type 0
PrintsCalls s [] text last = (text ≡ []) × (last ≡ s)
PrintsCalls s (asked ∷ calls) text last =
    (mid : State) × (line : List ℕ) × (rest : List ℕ) × PrintsCall s mid asked line × (text ≡ line ++ rest) × PrintsCalls mid calls rest last

-- the call has an outcome by the rules, and the line that prints it was written
pub record AnswersCall (before after : State) (old new : Option (List ℕ)) (asked : RawLine) : Type 0 where
  pub line : List ℕ
  pub prints : PrintsCall before after asked line
  pub written : Appends old new line

-- the kernel made the call on its line, granted or denied
abbrev pub IsMadeOnLine : KernelModel → RawLine → KernelModel → Type 0
IsMadeOnLine old asked new = IsMade (record old { line = asked.line }) asked.thread asked.call new

-- nothing was written, or the call has an outcome by the rules and a beginning of the line that prints it was written
abbrev pub BeginsAnswer : State → State → Option (List ℕ) → Option (List ℕ) → RawLine → Type 0
BeginsAnswer before after old new asked = Keeps old new ⊎ ((line : List ℕ) × PrintsCall before after asked line × AppendsFront old new line)

-- each of the calls has its outcome by the rules, and the lines that print them were written
pub record AnswersCalls (before after : State) (old new : Option (List ℕ)) (calls : List RawLine) : Type 0 where
  pub text : List ℕ
  pub prints : PrintsCalls before calls text after
  pub written : Appends old new text

-- the first of the calls have their outcomes by the rules, and a beginning of the lines that print them was written
pub record BeginsAnswers (before : State) (old new : Option (List ℕ)) (calls : List RawLine) : Type 0 where
  pub first : List RawLine
  pub rest : List RawLine
  pub parts : calls ≡ first ++ rest
  pub text : List ℕ
  pub last : State
  pub prints : PrintsCalls before first text last
  pub written : AppendsFront old new text
