-- What is true of each trial.
use Rattle.std.specs.Prelude.{◌≡◌, ℕ, ◌<◌, List, Option, Ok, Err}
use Rattle.histar_script.specs.declared.fault.Fault.TheVariants.{BadScript}
use Rattle.histar_script.specs.Lines.{lines_of}
use Rattle.histar_script.specs.Script.{ScriptModel}
use Rattle.histar_script.specs.Reading.{script_of}
use Rattle.histar_transcript.specs.Extended.{extended_text, kept_lines}

-- Where a script is extended by lines and the result is bad, its first bad line is one of these, and none of the
-- script's own.
abbrev pub AddedLinesAreBad : Type 0
AddedLinesAreBad = (at : Option ℕ) (calls : List (List ℕ)) (text : List ℕ) (script : ScriptModel)
    → script_of text ≡ Ok script → (line : ℕ) → script_of (extended_text at calls text) ≡ Err (BadScript line)
    → kept_lines at (lines_of text) < line
