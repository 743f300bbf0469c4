-- A run of a script with explanations, against the script's meaning.
use Rattle.std.specs.Prelude.{◌≡◌, ℕ, ◌⊎◌, List, [], ◌∷◌, ◌++◌, length, Option, Result, Ok, MatchResult}
use Rattle.std.specs.Io.KnownBytes.{Appends, Keeps}
use Rattle.histar_io.specs.Writing.{AppendsFront}
use Rattle.histar_flat.specs.declared.calls.CallLine.{CallLine}
use Rattle.histar_flat.specs.Accounts.{Accounts}
use Rattle.histar_flat.specs.FlatState.{Flat}
use Rattle.histar_flat.specs.FlatCalls.{flat_after}
use Rattle.histar_flat.specs.Meaning.{boot}
use Rattle.histar_object.specs.State.{State}
use Rattle.histar_script.specs.Script.{ScriptModel}
use Rattle.histar_script.specs.Reading.{script_of}
use Rattle.histar_script.specs.declared.fault.Fault.{Fault}
use Rattle.histar_script.specs.declared.fault.Fault.TheVariants.{OutOfMemory, WriteFailed}
use Rattle.histar_trace.specs.declared.entries.TraceEntry.{TraceEntry}
use Rattle.histar_layout.specs.UserTable.{without_passwords}
use Rattle.histar_programs.specs.Start.{roots_of}
use Rattle.histar_sim.specs.Simulation.{SimulatesLine}
use Rattle.histar_shell.specs.declared.session.Options.{Options}
use Rattle.histar_shell.specs.Ending.{asked_trace}
use Rattle.histar_shell.specs.OneTrace.{IsAnsweredTrace}
use Rattle.histar_shell.specs.Meaning.{IsMeantTrace, meaning_text}
use Rattle.histar_shell.specs.Outcome.{AgreesWith}
use Rattle.histar_raw_explain.specs.Texts.{Words}
use Rattle.histar_names.specs.Births.{Births, births_after}
use Rattle.histar_names.specs.Clues.{clue_of}
use Rattle.histar_run_explain.specs.Entries.{ExplainsEntries}
use Rattle.histar_names.specs.NamedWords.{words_at}

-- the names of objects and categories in the state after a line
abbrev pub words_of : Accounts → State → CallLine → Births → Words
words_of accounts after asked births =
    words_at (without_passwords accounts) (roots_of (length accounts.users)) after (clue_of asked.process asked.call) births

-- the births that are known after a line
abbrev pub births_of : Accounts → State → CallLine → Births → Births
births_of accounts after asked births = births_after after (roots_of (length accounts.users)) asked.process births

-- The lines of a script, one after another, from a state that represents this flat state: each refines its rule, and the text
-- explains each denied entry of it at the state before the entry, with the names of the state after the line and the births known then.
abbrev pub ExplainsCallLines : Accounts → State → Flat → Births → List CallLine → List TraceEntry → List ℕ → State → Type 0
ExplainsCallLines accounts s f births [] entries text end = (entries ≡ []) × (text ≡ []) × (end ≡ s)
ExplainsCallLines accounts s f births (asked ∷ more) entries text end =
    (own : List TraceEntry) × (later : List TraceEntry) × (mid : State) × (lines : List ℕ) × (rest : List ℕ)
    × (entries ≡ own ++ later) × (text ≡ lines ++ rest)
    × SimulatesLine accounts s f asked own mid
    × ExplainsEntries (words_of accounts mid asked (births_of accounts mid asked births)) s own lines mid
    × ExplainsCallLines accounts mid (flat_after accounts f asked.process asked.call) (births_of accounts mid asked births) more later rest end

-- the trace is a machine's that answered the script, it is one of the script's meaning, and the text explains each denied entry of its lines
pub record ExplainsTrace (script : ScriptModel) (trace : List TraceEntry) (text : List ℕ) : Type 0 where
  pub answered : IsAnsweredTrace script trace
  pub recorded : IsMeantTrace script trace
  pub refinements : ExplainsCallLines script.accounts recorded.start (boot script.accounts) [] script.calls recorded.of_lines text recorded.end

-- What `run` writes, and then the explanations, was written as far as `Writes` says.
pub record ExplainsAs (Writes : List ℕ → Type 0) (options : Options) (script : ScriptModel) : Type 0 where
  pub trace : List TraceEntry
  pub explanations : List ℕ
  pub explains : ExplainsTrace script trace explanations
  pub written : Writes ((meaning_text options script ++ asked_trace options trace) ++ explanations)

-- what was read is a script, and what `run` writes was written, and then the explanations
pub record ExplainsScript (options : Options) (old new : Option (List ℕ)) (read : Result ScriptModel Fault) : Type 0 where
  pub script : ScriptModel
  pub is_read : read ≡ Ok script
  pub explained : ExplainsAs (Appends old new) options script

-- what was read is a script, and a beginning of that was written
pub record BeginsExplained (options : Options) (old new : Option (List ℕ)) (read : Result ScriptModel Fault) : Type 0 where
  pub script : ScriptModel
  pub is_read : read ≡ Ok script
  pub begun : AppendsFront old new (meaning_text options script) ⊎ ExplainsAs (AppendsFront old new) options script

-- where memory runs out and after a failed write a beginning was written, and after the other faults nothing
abbrev pub ExplainsAtFault : Options → Option (List ℕ) → Option (List ℕ) → Result ScriptModel Fault → Fault → Type 0
ExplainsAtFault options old new read OutOfMemory = Keeps old new ⊎ BeginsExplained options old new read
ExplainsAtFault options old new read WriteFailed = BeginsExplained options old new read
ExplainsAtFault options old new read fault = Keeps old new

-- The text was run and explained: the fault of the script is returned, or what `run` writes was written, and then the explanations.
pub record ExplainsText (options : Options) (text : List ℕ) (old new : Option (List ℕ)) (result : Result (Unit {0}) Fault) : Type 0 where
  pub faults : AgreesWith (script_of text) result
  pub writes : MatchResult result (λ _. ExplainsScript options old new (script_of text)) (ExplainsAtFault options old new (script_of text))
