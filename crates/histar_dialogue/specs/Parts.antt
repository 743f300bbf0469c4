-- Parts of what subcommands write: the lines of a table that are of one path, and the last of some replies.
use Rattle.std.specs.Prelude.{ℕ, List, [], ◌∷◌, ◌++◌, codes, Option, Some, if◌then◌else◌, unwrap_or}
use Rattle.std.specs.Str.{bytes_eq}
use Rattle.histar_flat.specs.Words.{Path}
use Rattle.histar_flat.specs.Texts.{path_text}
use Rattle.histar_script.specs.Lines.{split_word}

-- a line of a table with its end, if it is of this path
abbrev pub line_at : Path → List ℕ → List ℕ
line_at path line = if bytes_eq (split_word line).0 (path_text path) then line ++ 10 ∷ [] else []

-- the answer where nothing is at a path
abbrev pub no_entry_text : List ℕ
no_entry_text = codes "no entry\n"

-- the text, or that there is no entry if it is empty
abbrev pub or_no_entry : List ℕ → List ℕ
or_no_entry [] = no_entry_text
or_no_entry (b ∷ text) = b ∷ text

-- a line of replies without its number
abbrev pub without_number : List ℕ → List ℕ
without_number line = unwrap_or (split_word line).1 []

-- the comment that expects the last of these replies, if there is one
abbrev pub expecting : Option (List ℕ) → List (List ℕ) → Option (List ℕ)
expecting found [] = found
expecting found (line ∷ lines) = expecting (Some (codes "#= " ++ without_number line)) lines
