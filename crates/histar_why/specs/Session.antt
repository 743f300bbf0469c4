-- A machine answers call lines, and the lines of those that were refused are kept.
use Rattle.std.specs.Prelude.{◌≡◌, ℕ, ◌⊎◌, List, [], Option, Result, Ok, Err, MatchResult}
use Rattle.std.specs.Global.{Vec}
use Rattle.std.specs.Io.KnownBytes.{Appends, Keeps}
use Rattle.histar_io.specs.Writing.{AppendsFront}
use Rattle.histar_flat.specs.declared.calls.CallLine.{CallLine}
use Rattle.histar_flat.specs.declared.replies.Reply.{Reply}
use Rattle.histar_flat.specs.Accounts.{Accounts}
use Rattle.histar_flat.specs.Calls.{IsCall}
use Rattle.histar_flat.specs.FlatState.{Flat}
use Rattle.histar_flat.specs.Meaning.{flat_end}
use Rattle.histar_script.specs.declared.fault.Fault.{Fault}
use Rattle.histar_syscall.specs.KernelModel.{state}
use Rattle.histar_names.specs.Births.{Births, births_after}
use Rattle.histar_reasons.specs.Sentences.{why_lines}
use Rattle.histar_shell.specs.Answers.{line_text}
use Rattle.histar_shell.specs.AnsweredCalls.{AnswersCalls, BeginsAnswer, BeginsAnswers}
use Rattle.histar_shell.specs.Ending.{AppendsEnding, BeginsTheEnding}
use Rattle.histar_shell.specs.Machine.{MachineModel, AnswersLine}
use Rattle.histar_shell.specs.declared.session.Options.{Options}
use Rattle.histar_why.specs.declared.asked.Asked.{Asked}
use Rattle.histar_why.specs.declared.session.Log.{Log}
use Rattle.histar_why.specs.Asked.{IsAsked}
use Rattle.histar_why.specs.Names.{Knows}
use Rattle.histar_why.specs.Logging.{Adds, SaysIfRefused}

-- the machine answered this call line with this reply, and the line of the reply was written
pub record Answers (before after : MachineModel) (old new : Option (List ℕ)) (call : CallLine)
    (reply : Reply) : Type 0 where
  pub is_call : IsCall call.call
  pub answered : AnswersLine before after call.line call.process call.call (Ok reply)
  pub written : Appends old new (line_text call.line reply)

-- the machine answered this call line; the births were noted, and the line of the call was added if it was refused
pub record LogsCall (before after : MachineModel) (old new : Option (List ℕ)) (call : CallLine)
    (from to : Log) : Type 0 where
  pub reply : Reply
  pub answers : Answers before after old new call reply
  pub births : to.births.items ≡ births_after (state after.kernel) after.roots call.process from.births.items
  pub asked : Asked
  pub is_asked : IsAsked call asked
  pub text : Adds (SaysIfRefused after to.births.items asked reply) from.text.items to.text.items

-- a beginning of the line of this call's reply was written, if the machine answered it, or nothing was
abbrev pub BeginsCall : MachineModel → MachineModel → Option (List ℕ) → Option (List ℕ) → CallLine → Type 0
BeginsCall before after old new call = Keeps old new ⊎ BeginsAnswer before after old new call

-- For each flat state that the first machine represents, the text has the lines of those of these calls that were
-- refused, and the last machine's jobs have the right names.
abbrev pub Logs : MachineModel → MachineModel → Births → Births → List CallLine → List ℕ → Type 0
Logs before after from to calls text =
    (accounts : Accounts) (f : Flat) → Knows from accounts before f
    → (text ≡ why_lines accounts f calls) × Knows to accounts after (flat_end accounts f calls)

-- the machine answered each of these call lines, their replies were written, and the text has the lines of the refused
pub record LogsCalls (before after : MachineModel) (old new : Option (List ℕ)) (calls : List CallLine)
    (births : Births) (text : List ℕ) : Type 0 where
  pub answered : AnswersCalls before after old new calls
  pub logs : Logs before after [] births calls text

-- the same, whatever the births are
abbrev pub HasLogged : MachineModel → MachineModel → Option (List ℕ) → Option (List ℕ) → List CallLine → List ℕ → Type 0
HasLogged before after old new calls text = (births : Births) × LogsCalls before after old new calls births text

-- the result is the text, or the fault of the outcome
abbrev pub IsWithText : Result (Unit {0}) Fault → Vec ℕ → Result (Vec ℕ) Fault → Type 0
IsWithText outcome text result = MatchResult outcome (λ _. result ≡ Ok text) (λ fault. result ≡ Err fault)

-- ---- the calls of a script and what is written after the replies

-- what follows the replies of a machine was written, and then the lines as far as `Writes` says
pub record LogsAfter (Writes : Option (List ℕ) → Type 0) (options : Options) (m : MachineModel)
    (old : Option (List ℕ)) : Type 0 where
  pub ended : Option (List ℕ)
  pub ending : AppendsEnding options m old ended
  pub lines : Writes ended

-- what follows the replies of a machine was written, and then this text
abbrev pub AppendsRest : Options → MachineModel → Option (List ℕ) → Option (List ℕ) → List ℕ → Type 0
AppendsRest options m old new text = LogsAfter (λ ended. Appends ended new text) options m old

-- a beginning of that was written
abbrev pub BeginsRest : Options → MachineModel → Option (List ℕ) → Option (List ℕ) → List ℕ → Type 0
BeginsRest options m old new text =
    BeginsTheEnding options m old new ⊎ LogsAfter (λ ended. AppendsFront ended new text) options m old

-- The machine answered each of these call lines, and the lines of its replies were written. So was what `Rest` says of
-- the machine, of what was written by then, and of the lines of refused calls.
pub record LogsRun (Rest : MachineModel → Option (List ℕ) → List ℕ → Type 0) (start : MachineModel)
    (old : Option (List ℕ)) (calls : List CallLine) : Type 0 where
  pub end : MachineModel
  pub replied : Option (List ℕ)
  pub text : List ℕ
  pub logged : HasLogged start end old replied calls text
  pub rest : Rest end replied text

-- the calls were answered, and the replies, what follows them and the lines of refused calls were written
abbrev pub WritesRun : Options → MachineModel → Option (List ℕ) → Option (List ℕ) → List CallLine → Type 0
WritesRun options start old new calls =
    LogsRun (λ end replied text. AppendsRest options end replied new text) start old calls

-- a beginning of that was written
abbrev pub BeginsRun : Options → MachineModel → Option (List ℕ) → Option (List ℕ) → List CallLine → Type 0
BeginsRun options start old new calls =
    BeginsAnswers start old new calls
    ⊎ LogsRun (λ end replied text. BeginsRest options end replied new text) start old calls
