-- The one trace of a script: the raw calls of boot and of the programs of its lines, whichever machine answers it.
use Rattle.std.specs.Prelude.{◌≡◌, List}
use Rattle.histar_flat.specs.Meaning.{RepliedCall}
use Rattle.histar_script.specs.Script.{ScriptModel}
use Rattle.histar_trace.specs.declared.entries.TraceEntry.{TraceEntry}
use Rattle.histar_shell.specs.Answers.{calls_of}
use Rattle.histar_shell.specs.AnsweredCalls.{AnswersInTurn}
use Rattle.histar_shell.specs.Machine.{MachineModel, IsStart}

-- A machine that was booted with the users and groups of a script answered each of its call lines, and the trace is the one that it has at
-- the end: that of the raw calls of boot and of the programs of the lines, and of no others.
pub record IsAnsweredTrace (script : ScriptModel) (trace : List TraceEntry) : Type 0 where
  pub start : MachineModel
  pub starts : IsStart script.accounts start
  pub answers : List RepliedCall
  pub each : calls_of answers ≡ script.calls
  pub end : MachineModel
  pub in_turn : AnswersInTurn start answers end
  pub recorded : trace ≡ end.kernel.trace

-- a script has one trace, whichever machine answers it
abbrev pub ScriptsHaveOneTrace : Type 0
ScriptsHaveOneTrace = (script : ScriptModel) (one other : List TraceEntry) → IsAnsweredTrace script one → IsAnsweredTrace script other → one ≡ other
