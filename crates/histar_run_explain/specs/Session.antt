-- A machine answers call lines, and its denied raw calls are explained.
use Rattle.std.specs.Prelude.{◌≡◌, ℕ, ◌⊎◌, List, [], ◌∷◌, ◌++◌, Option, Result, Ok, Err, MatchResult}
use Rattle.std.specs.Global.{Vec}
use Rattle.std.specs.Io.KnownBytes.{Appends}
use Rattle.histar_io.specs.Writing.{AppendsFront}
use Rattle.histar_flat.specs.declared.calls.CallLine.{CallLine}
use Rattle.histar_flat.specs.Meaning.{RepliedCall}
use Rattle.histar_script.specs.declared.fault.Fault.{Fault}
use Rattle.histar_trace.specs.declared.entries.TraceEntry.{TraceEntry}
use Rattle.histar_syscall.specs.KernelModel.{state}
use Rattle.histar_shell.specs.Answers.{answers_text, calls_of}
use Rattle.histar_shell.specs.AnsweredCalls.{AnswersCall, AnswersCalls, BeginsAnswers}
use Rattle.histar_shell.specs.Ending.{AppendsEnding, BeginsTheEnding, HasTree}
use Rattle.histar_shell.specs.declared.session.Options.{Options}
use Rattle.histar_shell.specs.Machine.{MachineModel, AnswersLine}
use Rattle.histar_raw_explain.specs.Texts.{Words}
use Rattle.histar_names.specs.Births.{Births, births_after}
use Rattle.histar_names.specs.Clues.{clue_of}
use Rattle.histar_run_explain.specs.Entries.{ExplainsEntries}
use Rattle.histar_names.specs.NamedWords.{words_at}

-- the names of objects and categories in a machine's state after a line
abbrev pub words_after : MachineModel → CallLine → Births → Words
words_after m asked births = words_at m.users m.roots (state m.kernel) (clue_of asked.process asked.call) births

-- the births that are known after a machine has answered a line
abbrev pub births_by : MachineModel → CallLine → Births → Births
births_by m asked births = births_after (state m.kernel) m.roots asked.process births

-- the lines explain each denied entry that a call line has added to the trace, at the state before the entry
pub record ExplainsLine (before after : MachineModel) (asked : CallLine) (births : Births) (lines : List ℕ) : Type 0 where
  pub entries : List TraceEntry
  pub trace : after.kernel.trace ≡ before.kernel.trace ++ entries
  pub explained : ExplainsEntries (words_after after asked births) (state before.kernel) entries lines (state after.kernel)

-- a machine answered these call lines one after another, each with the reply that it is listed with, and the text explains them
abbrev pub ExplainsInTurn : MachineModel → Births → List RepliedCall → List ℕ → MachineModel → Births → Type 0
ExplainsInTurn m births [] text end born = (text ≡ []) × (end ≡ m) × (born ≡ births)
ExplainsInTurn m births (a ∷ answers) text end born =
    (mid : MachineModel) × (lines : List ℕ) × (rest : List ℕ)
    × AnswersLine m mid a.call.line a.call.process a.call.call (Ok a.reply)
    × ExplainsLine m mid a.call (births_by mid a.call births) lines
    × (text ≡ lines ++ rest) × ExplainsInTurn mid (births_by mid a.call births) answers rest end born

-- the machine answered each of these call lines, the lines of its replies were written, and the text explains them
pub record ExplainsCalls (before after : MachineModel) (old new : Option (List ℕ)) (calls : List CallLine) (text : List ℕ) (born : Births) : Type 0 where
  pub answers : List RepliedCall
  pub each : calls_of answers ≡ calls
  pub in_turn : ExplainsInTurn before [] answers text after born
  pub written : Appends old new (answers_text answers)

-- the machine answered one call line, the line of its reply was written, and these lines explain it
pub record ExplainsCall (before after : MachineModel) (old new : Option (List ℕ)) (call : CallLine) (births : Births) (lines : List ℕ) : Type 0 where
  pub answered : AnswersCall before after old new call
  pub explained : ExplainsLine before after call births lines

-- ---- the calls of a script and what is written after the replies

-- the machine answered each of these call lines, the lines of its replies were written, and the text explains them
abbrev pub HasExplained : MachineModel → MachineModel → Option (List ℕ) → Option (List ℕ) → List CallLine → List ℕ → Type 0
HasExplained before after old new calls text = (born : Births) × ExplainsCalls before after old new calls text born

-- the result is the text, or the fault of the outcome
abbrev pub IsWithText : Result (Unit {0}) Fault → Vec ℕ → Result (Vec ℕ) Fault → Type 0
IsWithText outcome text result = MatchResult outcome (λ _. result ≡ Ok text) (λ fault. result ≡ Err fault)

-- a machine that has answered these calls has a tree
abbrev pub EndsWithTree : MachineModel → List CallLine → Type 0
EndsWithTree m calls = (end : MachineModel) (old new : Option (List ℕ)) → AnswersCalls m end old new calls → HasTree end

-- what follows the replies of a machine was written, and then the explanations as far as `Writes` says
pub record ExplainsAfter (Writes : Option (List ℕ) → Type 0) (options : Options) (m : MachineModel) (old : Option (List ℕ)) : Type 0 where
  pub ended : Option (List ℕ)
  pub ending : AppendsEnding options m old ended
  pub explanations : Writes ended

-- what follows the replies of a machine was written, and then these explanations
abbrev pub AppendsRest : Options → MachineModel → Option (List ℕ) → Option (List ℕ) → List ℕ → Type 0
AppendsRest options m old new text = ExplainsAfter (λ ended. Appends ended new text) options m old

-- a beginning of that was written
abbrev pub BeginsRest : Options → MachineModel → Option (List ℕ) → Option (List ℕ) → List ℕ → Type 0
BeginsRest options m old new text = BeginsTheEnding options m old new ⊎ ExplainsAfter (λ ended. AppendsFront ended new text) options m old

-- The machine answered each of these call lines, and the lines of its replies were written. So was what `Rest` says of the machine, of
-- what was written by then, and of the explanations.
pub record ExplainsRun (Rest : MachineModel → Option (List ℕ) → List ℕ → Type 0) (start : MachineModel) (old : Option (List ℕ)) (calls : List CallLine) : Type 0 where
  pub end : MachineModel
  pub replied : Option (List ℕ)
  pub text : List ℕ
  pub born : Births
  pub answered : ExplainsCalls start end old replied calls text born
  pub rest : Rest end replied text

-- the calls were answered, and the replies, what follows them and the explanations were written
abbrev pub WritesRun : Options → MachineModel → Option (List ℕ) → Option (List ℕ) → List CallLine → Type 0
WritesRun options start old new calls = ExplainsRun (λ end replied text. AppendsRest options end replied new text) start old calls

-- a beginning of that was written
abbrev pub BeginsRun : Options → MachineModel → Option (List ℕ) → Option (List ℕ) → List CallLine → Type 0
BeginsRun options start old new calls =
    BeginsAnswers start old new calls ⊎ ExplainsRun (λ end replied text. BeginsRest options end replied new text) start old calls
