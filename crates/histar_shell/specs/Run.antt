-- What a run of a text returns and writes.
use Rattle.std.specs.Prelude.{ℕ, List, Option, Result}
use Rattle.histar_script.specs.declared.fault.Fault.{Fault}
use Rattle.histar_script.specs.Reading.{script_of}
use Rattle.histar_trace.specs.declared.entries.TraceEntry.{TraceEntry}
use Rattle.histar_shell.specs.declared.session.Options.{Options}
use Rattle.histar_shell.specs.Outcome.{AgreesWith, WritesAnswers}
use Rattle.histar_shell.specs.Meaning.{RunsAsMeant}

-- The text was run: its fault is returned, a machine that starts with its users and groups answers its call lines, and what was written
-- and the trace are that machine's and those of the script's meaning.
pub record RunsText (options : Options) (text : List ℕ) (old new : Option (List ℕ)) (result : Result (List TraceEntry) Fault) : Type 0 where
  pub faults : AgreesWith (script_of text) result
  pub answers : WritesAnswers options old new (script_of text) result
  pub means : RunsAsMeant options old new (script_of text) result
