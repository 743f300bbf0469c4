-- How each secret file is revealed or changed: the titles of what `leak` prints of it.
use Rattle.std.specs.Prelude.{ℕ, ◌+◌, ◌*◌, nat_eq, nat_lt, Bool, List, [], ◌++◌, codes, drop, filter, length, None, Option, Result}
use Rattle.std.specs.Prelude.{if◌then◌else◌}
use Rattle.std.specs.List.{flat_map, starts_with}
use Rattle.histar_flat.specs.Words.{Path}
use Rattle.histar_flat.specs.Accounts.{Accounts}
use Rattle.histar_flat.specs.FlatState.{Flat}
use Rattle.histar_flat.specs.Texts.{path_text}
use Rattle.histar_rights.specs.Running.{running_in}
use Rattle.histar_script.specs.Lines.{lines_of}
use Rattle.histar_script.specs.Script.{ScriptModel}
use Rattle.histar_script.specs.declared.fault.Fault.{Fault}
use Rattle.histar_prefix.specs.Prefix.{state_before}
use Rattle.histar_trust.specs.Secrets.{secret_paths}
use Rattle.histar_trust.specs.Session.{WritesOf}
use Rattle.histar_leak.specs.declared.titles.TheConstants.{MOST_TITLE_WORK}
use Rattle.histar_leak.specs.LeakText.{leak_text}

-- a title begins with `# `
abbrev pub is_title : List ℕ → Bool
is_title line = starts_with nat_eq line (codes "# ")

-- the line of a title: it begins with the space behind the `#`
abbrev pub title_line : List ℕ → List ℕ
title_line line = drop 1 line ++ codes "\n"

-- the lines of the titles among these lines
abbrev pub title_lines : List (List ℕ) → List ℕ
title_lines lines = flat_map title_line (filter is_title lines)

-- the lines of the titles in a text of `leak`: those behind its first line, which says what is at the path
abbrev pub titles_in : List ℕ → List ℕ
titles_in text = title_lines (drop 1 (lines_of text))

-- the secret files, times the entries of the tree and the pairs of processes
abbrev pub title_work : Flat → ℕ
title_work f = length (secret_paths f) * (length f.files.entries + length (running_in f) * length (running_in f))

module _ (accounts : Accounts) (f : Flat) where
  -- a line with the path of a file, and the titles of what `leak` prints of it
  abbrev pub file_titles : Path → List ℕ
  file_titles path = path_text path ++ codes "\n" ++ titles_in (leak_text accounts f path)

  -- the titles of each file that `secrets` lists, in the same order, and nothing where this is too much work
  abbrev pub titles_text : List ℕ
  titles_text = if nat_lt MOST_TITLE_WORK (title_work f) then [] else flat_map file_titles (secret_paths f)

-- the text of the flat state after all calls of a script
abbrev pub titles_after : ScriptModel → List ℕ
titles_after script = titles_text script.accounts (state_before None script)

-- The text was read as a script: its fault is returned, or exactly the text on the secret files after all its calls was written.
abbrev pub TitlesText : List ℕ → Option (List ℕ) → Option (List ℕ) → Result (Unit {0}) Fault → Type 0
TitlesText = WritesOf titles_after
