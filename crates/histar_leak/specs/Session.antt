-- The text that is written of a script: that of its flat state for one path before a line.
use Rattle.std.specs.Prelude.{◌≡◌, ℕ, List, Option, Result, Ok, Err}
use Rattle.std.specs.Global.{Vec}
use Rattle.histar_flat.specs.Words.{Path}
use Rattle.histar_script.specs.Script.{ScriptModel}
use Rattle.histar_script.specs.Reading.{script_of}
use Rattle.histar_script.specs.declared.fault.Fault.{Fault}
use Rattle.histar_script.specs.declared.fault.Fault.TheVariants.{OutOfMemory}
use Rattle.histar_prefix.specs.Prefix.{state_before}
use Rattle.histar_trust.specs.Session.{WritesOf}
use Rattle.histar_leak.specs.LeakText.{leak_text}

-- the text of the flat state of a script before this line, for a path
abbrev pub leak_before : Option ℕ → Path → ScriptModel → List ℕ
leak_before at path script = leak_text script.accounts (state_before at script) path

-- The text was read as a script: its fault is returned, or exactly the text of its state for a path was written.
abbrev pub LeakOf : Option ℕ → Path → List ℕ → Option (List ℕ) → Option (List ℕ) → Result (Unit {0}) Fault → Type 0
LeakOf at path = WritesOf (leak_before at path)

-- The text of a script is returned, unless memory ran out.
abbrev pub MakesText : (ScriptModel → List ℕ) → List ℕ → Result (Vec ℕ) Fault → Type 0
MakesText text_of text (Ok lines) = (script : ScriptModel) → script_of text ≡ Ok script → lines.items ≡ text_of script
MakesText text_of text (Err OutOfMemory) = Unit {0}
MakesText text_of text (Err fault) = ⊥
