-- What the result of a run says of its script and of its output.
use Rattle.std.specs.Prelude.{◌≡◌, ℕ, ◌⊎◌, List, Option, Result, Ok, Err, IsOk, MatchResult}
use Rattle.std.specs.Io.KnownBytes.{Appends, Keeps}
use Rattle.histar_script.specs.declared.fault.Fault.{Fault}
use Rattle.histar_script.specs.declared.fault.Fault.TheVariants.{OutOfMemory, ReadFailed, WriteFailed}
use Rattle.histar_script.specs.Script.{ScriptModel}
use Rattle.histar_shell.specs.Machine.{MachineModel, IsStart}
use Rattle.histar_flat.specs.declared.calls.CallLine.{CallLine}
use Rattle.histar_io.specs.Writing.{AppendsFront}
use Rattle.histar_shell.specs.declared.session.Options.{Options}
use Rattle.histar_shell.specs.Ending.{IsEnding}
use Rattle.histar_shell.specs.AnsweredCalls.{AnswersCalls, BeginsAnswers}
use Rattle.histar_trace.specs.declared.entries.TraceEntry.{TraceEntry}

-- A fault in a script is returned as it is. The other faults are not of the script, and a write fails only after a
-- script without fault.
abbrev pub IsFaultAt : Result ScriptModel Fault → Fault → Type 0
IsFaultAt read OutOfMemory = Unit {0}
IsFaultAt read ReadFailed = Unit {0}
IsFaultAt read WriteFailed = IsOk read
IsFaultAt read fault = read ≡ Err fault

-- a run ends well only after a script without fault, and its faults agree with the script
abbrev pub AgreesWith : {A : Type 0} → Result ScriptModel Fault → Result A Fault → Type 0
AgreesWith read result = MatchResult result (λ _. IsOk read) (IsFaultAt read)

-- What was read is a script. A machine that was booted with its users and groups answered each of its call lines, the lines of the
-- replies were written and then what follows them, and the trace is the one that the machine has at the end.
pub record AnswersScript (options : Options) (old new : Option (List ℕ)) (read : Result ScriptModel Fault) (trace : List TraceEntry) : Type 0 where
  pub script : ScriptModel
  pub is_read : read ≡ Ok script
  pub start : MachineModel
  pub starts : IsStart script.accounts start
  pub end : MachineModel
  pub replied : Option (List ℕ)
  pub answered : AnswersCalls start end old replied script.calls
  pub ending : List ℕ
  pub ends : IsEnding options end ending
  pub appended : Appends replied new ending
  pub recorded : trace ≡ end.kernel.trace

-- the machine answered each of these call lines, the lines of the replies were written, and then a beginning of what follows
-- them
pub record BeginsEnding (options : Options) (start : MachineModel) (old new : Option (List ℕ)) (calls : List CallLine) : Type 0 where
  pub end : MachineModel
  pub replied : Option (List ℕ)
  pub answered : AnswersCalls start end old replied calls
  pub ending : List ℕ
  pub ends : IsEnding options end ending
  pub appended : AppendsFront replied new ending

-- What was read is a script. A machine that was booted with its users and groups answered the first of its call lines, and a beginning of
-- the lines of the replies was written; or it answered them all, and a beginning of what follows the replies was written.
pub record BeginsScript (options : Options) (old new : Option (List ℕ)) (read : Result ScriptModel Fault) : Type 0 where
  pub script : ScriptModel
  pub is_read : read ≡ Ok script
  pub start : MachineModel
  pub starts : IsStart script.accounts start
  pub begun : BeginsAnswers start old new script.calls ⊎ BeginsEnding options start old new script.calls

-- After a failed write a beginning of the text was written, where memory runs out that or nothing, after the other faults nothing.
abbrev pub WritesAtFault : Options → Option (List ℕ) → Option (List ℕ) → Result ScriptModel Fault → Fault → Type 0
WritesAtFault options old new read OutOfMemory = Keeps old new ⊎ BeginsScript options old new read
WritesAtFault options old new read WriteFailed = BeginsScript options old new read
WritesAtFault options old new read fault = Keeps old new

-- each call line was answered by the machine with this trace, or as many as the fault allowed
abbrev pub WritesAnswers : Options → Option (List ℕ) → Option (List ℕ) → Result ScriptModel Fault → Result (List TraceEntry) Fault → Type 0
WritesAnswers options old new read result = MatchResult result (AnswersScript options old new read) (WritesAtFault options old new read)
