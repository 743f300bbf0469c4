-- The front of a script: its lines before a line, and all before its first call.
use Rattle.std.specs.Prelude.{◌≡◌, ℕ, ◌-◌, List, [], ◌∷◌, length, min, max, take, Some, Result, Ok, Err}
use Rattle.std.specs.Global.{Vec}
use Rattle.histar_flat.specs.declared.calls.CallLine.{CallLine}
use Rattle.histar_script.specs.declared.fault.Fault.{Fault}
use Rattle.histar_script.specs.Lines.{lines_of}
use Rattle.histar_script.specs.Outcome.{Gives}
use Rattle.histar_script.specs.Reading.{script_of}
use Rattle.histar_script.specs.Script.{ScriptModel}
use Rattle.histar_prefix.specs.Prefix.{calls_before}

-- of so many lines with these calls, how many are before the given one or before the first call
abbrev pub count_before : ℕ → List CallLine → ℕ → ℕ
count_before at [] all = all
count_before at (call ∷ calls) all = min (max at call.line - 1) all

-- the lines before the given one, and all before the first of these calls
abbrev pub lines_before : ℕ → List CallLine → List (List ℕ) → List (List ℕ)
lines_before at calls lines = take (count_before at calls (length lines)) lines

-- the accounts of a script, and its calls on the lines before the given one
abbrev pub script_before : ℕ → ScriptModel → ScriptModel
script_before at script = record { accounts = script.accounts; calls = calls_before (Some at) script.calls }

-- the text is a script; the front has its lines before the given one, and is the script with the calls on these alone
pub record IsFront (at : ℕ) (text front : List ℕ) : Type 0 where
  pub script : ScriptModel
  pub is_read : script_of text ≡ Ok script
  pub lines : lines_of front ≡ lines_before at script.calls (lines_of text)
  pub means : script_of front ≡ Ok (script_before at script)

-- The front is returned, or the fault of the script.
abbrev pub GivesFront : ℕ → List ℕ → Result (Vec ℕ) Fault → Type 0
GivesFront at text (Ok front) = IsFront at text front.items
GivesFront at text (Err fault) = Gives {A = ScriptModel} (Err fault) (script_of text)
