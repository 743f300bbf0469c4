-- The script that is tried: the lines of a file before a line, or all of them, and then more lines.
use Rattle.std.specs.Prelude.{ℕ, ◌-◌, ◌++◌, ◌∷◌, List, [], length, take, Option, None, Some}
use Rattle.std.specs.List.{flat_map}
use Rattle.histar_script.specs.Lines.{lines_of}

-- how many of these lines come before the given one, or how many there are if none is given
abbrev pub kept_lines : Option ℕ → List (List ℕ) → ℕ
kept_lines None lines = length lines
kept_lines (Some first) lines = length (take (first - 1) lines)

-- lines, each with its end
abbrev pub ended_lines : List (List ℕ) → List ℕ
ended_lines lines = flat_map (λ (line : List ℕ). line ++ 10 ∷ []) lines

-- the text of the lines that are kept, and then these
abbrev pub extended_text : Option ℕ → List (List ℕ) → List ℕ → List ℕ
extended_text at calls text = ended_lines (take (kept_lines at (lines_of text)) (lines_of text)) ++ ended_lines calls
