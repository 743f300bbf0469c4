-- The text of a script: who could ever do what before a line, or in the whole run.
use Rattle.std.specs.Prelude.{◌≡◌, ℕ, List, Option, Result, Ok, Err}
use Rattle.std.specs.Global.{Vec}
use Rattle.histar_flat.specs.declared.calls.CallLine.{CallLine}
use Rattle.histar_script.specs.Script.{ScriptModel}
use Rattle.histar_script.specs.Outcome.{Gives}
use Rattle.histar_script.specs.Reading.{script_of}
use Rattle.histar_script.specs.declared.fault.Fault.{Fault}
use Rattle.histar_access.specs.Session.{TableOfText}
use Rattle.histar_shell.specs.Machine.{MachineModel}
use Rattle.histar_shell.specs.Meaning.{ShowsStart}
use Rattle.histar_ever.specs.Ever.{ever_text}
use Rattle.histar_ever.specs.EverUsers.{ever_users_text}
use Rattle.histar_ever.specs.Following.{Gathering}
use Rattle.histar_ever.specs.States.{states_before}

-- the text of who could ever do what in a script's run, up to this line
abbrev pub script_text : Option ℕ → ScriptModel → List ℕ
script_text at script = ever_text script.accounts (states_before at script)

-- the text of what each user could ever do in a script's run, up to this line
abbrev pub users_script_text : Option ℕ → ScriptModel → List ℕ
users_script_text at script = ever_users_text script.accounts (states_before at script)

-- what is written is the text by processes of the script
abbrev pub EverText : Option ℕ → List ℕ → Option (List ℕ) → Option (List ℕ) → Result (Unit {0}) Fault → Type 0
EverText at = TableOfText (script_text at)

-- what is written is the text by users of the script
abbrev pub EverUsersText : Option ℕ → List ℕ → Option (List ℕ) → Option (List ℕ) → Result (Unit {0}) Fault → Type 0
EverUsersText at = TableOfText (users_script_text at)

-- ---- the parts

module _ (of : ScriptModel → List ℕ) where
  -- the text is a script, and these bytes are what is made of it
  pub record IsTextOf (text bytes : List ℕ) : Type 0 where
    pub script : ScriptModel
    pub is_read : script_of text ≡ Ok script
    pub is : bytes ≡ of script

  -- the text was read as a script, and these are those bytes, or its fault is the result
  abbrev pub ReadsText : List ℕ → Result (Vec ℕ) Fault → Type 0
  ReadsText text (Ok bytes) = IsTextOf text bytes.items
  ReadsText text (Err fault) = Gives {A = ScriptModel} (Err fault) (script_of text)

-- the text was read as a script, and this is the text of who could ever do what, or its fault is the result
abbrev pub ReadsEver : Option ℕ → List ℕ → Result (Vec ℕ) Fault → Type 0
ReadsEver at = ReadsText (script_text at)

-- the text was read as a script, and this is the text of what each user could ever do, or its fault is the result
abbrev pub ReadsEverUsers : Option ℕ → List ℕ → Result (Vec ℕ) Fault → Type 0
ReadsEverUsers at = ReadsText (users_script_text at)

-- the text is a script, with these calls, and the machine represents its start
pub record IsStartOf (text : List ℕ) (m : MachineModel) (calls : List CallLine) : Type 0 where
  pub script : ScriptModel
  pub is_read : script_of text ≡ Ok script
  pub calls_are : calls ≡ script.calls
  pub shows : ShowsStart script.accounts m

-- the text was read as a script, and these are a machine at its start and its calls, or its fault is the result
abbrev pub StartsText : List ℕ → Result (MachineModel × Vec CallLine) Fault → Type 0
StartsText text (Ok started) = IsStartOf text started.0 started.1.items
StartsText text (Err fault) = Gives {A = ScriptModel} (Err fault) (script_of text)

module _ {E : Type 0} (gathers : Gathering E) where
  -- the text is a script, and what was there in the states of its run was gathered
  pub record IsGatheredOf (at : Option ℕ) (text : List ℕ) (e : E) : Type 0 where
    pub script : ScriptModel
    pub is_read : script_of text ≡ Ok script
    pub gathered : gathers script.accounts (states_before at script) e

  -- the text was read as a script and run up to this line, or its fault is the result
  abbrev pub GathersText : Option ℕ → List ℕ → Result E Fault → Type 0
  GathersText at text (Ok e) = IsGatheredOf at text e
  GathersText at text (Err fault) = Gives {A = ScriptModel} (Err fault) (script_of text)
