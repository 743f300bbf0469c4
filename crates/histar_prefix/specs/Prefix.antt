-- The machine of a script before a line, or after all its calls.
use Rattle.std.specs.Prelude.{◌≡◌, ℕ, Bool, true, nat_lt, List, Option, None, Some, Result, Ok, Err}
use Rattle.std.specs.List.{filter}
use Rattle.histar_flat.specs.declared.calls.CallLine.{CallLine}
use Rattle.histar_flat.specs.Accounts.{Accounts}
use Rattle.histar_flat.specs.FlatState.{Flat}
use Rattle.histar_flat.specs.Meaning.{boot, flat_end}
use Rattle.histar_script.specs.Script.{ScriptModel}
use Rattle.histar_script.specs.Outcome.{Gives}
use Rattle.histar_script.specs.Reading.{script_of}
use Rattle.histar_script.specs.declared.fault.Fault.{Fault}
use Rattle.histar_rights.specs.Running.{HaveShownNames}
use Rattle.histar_shell.specs.Machine.{MachineModel}
use Rattle.histar_shell.specs.Meaning.{Shows}

-- the line comes before this one, if one is given
abbrev pub is_before : Option ℕ → ℕ → Bool
is_before None line = true
is_before (Some first) line = nat_lt line first

-- the calls on the lines before this one, or all
abbrev pub calls_before : Option ℕ → List CallLine → List CallLine
calls_before at calls = filter (λ c. is_before at c.line) calls

-- the flat state after these calls of a script
abbrev pub state_before : Option ℕ → ScriptModel → Flat
state_before at script = flat_end script.accounts (boot script.accounts) (calls_before at script.calls)

-- for every flat state that a machine represented, it represents the one after these calls
abbrev pub ShowsAfter : MachineModel → MachineModel → List CallLine → Type 0
ShowsAfter old new calls = (accounts : Accounts) (f : Flat) → Shows accounts old f → Shows accounts new (flat_end accounts f calls)

-- the text is a script, and the machine represents the flat state before this line, in which processes have names that can be shown
pub record IsMachineOf (at : Option ℕ) (text : List ℕ) (m : MachineModel) : Type 0 where
  pub script : ScriptModel
  pub is_read : script_of text ≡ Ok script
  pub shows : Shows script.accounts m (state_before at script)
  pub named : HaveShownNames (state_before at script)

-- The text was read as a script and run up to this line, or its fault is the result.
abbrev pub RunsText : Option ℕ → List ℕ → Result MachineModel Fault → Type 0
RunsText at text (Ok m) = IsMachineOf at text m
RunsText at text (Err fault) = Gives {A = ScriptModel} (Err fault) (script_of text)
