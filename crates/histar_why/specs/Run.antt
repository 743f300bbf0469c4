-- A run of a script with reasons, against the script's meaning.
use Rattle.std.specs.Prelude.{◌≡◌, ℕ, ◌⊎◌, List, ◌++◌, Option, Result, Ok, MatchResult}
use Rattle.std.specs.Io.KnownBytes.{Appends, Keeps}
use Rattle.histar_io.specs.Writing.{AppendsFront}
use Rattle.histar_flat.specs.Meaning.{boot}
use Rattle.histar_reasons.specs.Sentences.{why_lines}
use Rattle.histar_script.specs.Script.{ScriptModel}
use Rattle.histar_script.specs.Reading.{script_of}
use Rattle.histar_script.specs.declared.fault.Fault.{Fault}
use Rattle.histar_script.specs.declared.fault.Fault.TheVariants.{OutOfMemory, WriteFailed}
use Rattle.histar_trace.specs.declared.entries.TraceEntry.{TraceEntry}
use Rattle.histar_shell.specs.declared.session.Options.{Options}
use Rattle.histar_shell.specs.Ending.{asked_trace}
use Rattle.histar_shell.specs.Meaning.{IsMeantTrace, meaning_text}
use Rattle.histar_shell.specs.Outcome.{AgreesWith}

-- the lines of the refused calls of a script
abbrev pub reasons_text : ScriptModel → List ℕ
reasons_text script = why_lines script.accounts (boot script.accounts) script.calls

-- What `run` writes, and then the lines of the refused calls, was written as far as `Writes` says.
pub record ReasonsAs (Writes : List ℕ → Type 0) (options : Options) (script : ScriptModel) : Type 0 where
  pub trace : List TraceEntry
  pub recorded : IsMeantTrace script trace
  pub written : Writes ((meaning_text options script ++ asked_trace options trace) ++ reasons_text script)

-- what was read is a script, and what `run` writes was written, and then the lines of the refused calls
pub record WritesReasons (options : Options) (old new : Option (List ℕ))
    (read : Result ScriptModel Fault) : Type 0 where
  pub script : ScriptModel
  pub is_read : read ≡ Ok script
  pub reasoned : ReasonsAs (Appends old new) options script

-- what was read is a script, and a beginning of that was written
pub record BeginsReasons (options : Options) (old new : Option (List ℕ))
    (read : Result ScriptModel Fault) : Type 0 where
  pub script : ScriptModel
  pub is_read : read ≡ Ok script
  pub begun : AppendsFront old new (meaning_text options script) ⊎ ReasonsAs (AppendsFront old new) options script

-- where memory runs out and after a failed write a beginning was written, and after the other faults nothing
abbrev pub ReasonsAtFault : Options → Option (List ℕ) → Option (List ℕ) → Result ScriptModel Fault → Fault → Type 0
ReasonsAtFault options old new read OutOfMemory = Keeps old new ⊎ BeginsReasons options old new read
ReasonsAtFault options old new read WriteFailed = BeginsReasons options old new read
ReasonsAtFault options old new read fault = Keeps old new

-- The text was run with reasons: the fault of the script is returned, or what `run` writes was written, and then the
-- lines of the refused calls.
pub record RunsWithReasons (options : Options) (text : List ℕ) (old new : Option (List ℕ))
    (result : Result (Unit {0}) Fault) : Type 0 where
  pub faults : AgreesWith (script_of text) result
  pub writes : MatchResult result (λ _. WritesReasons options old new (script_of text))
      (ReasonsAtFault options old new (script_of text))
