-- What a session may claim of a path: the rights of each running process, as comments that a test reads.
use Rattle.std.specs.Prelude.{ℕ, List, [], ◌∷◌, ◌++◌, codes, if◌then◌else◌, unwrap_or}
use Rattle.std.specs.List.{flat_map}
use Rattle.std.specs.Str.{bytes_eq}
use Rattle.histar_flat.specs.Words.{Path, split_at_first}
use Rattle.histar_flat.specs.Texts.{path_text}
use Rattle.histar_script.specs.Lines.{split_word, ◌space◌}
use Rattle.histar_page.specs.Lines.{after_word, words_of}

-- the words `PROC:RIGHTS` of a line of a table: what is behind its path, its kind, its owner and its class
abbrev pub rights_on : List ℕ → List ℕ
rights_on line = after_word (after_word (after_word (after_word line)))

-- the claim `#! PATH PROC RIGHTS` of a word `PROC:RIGHTS`, with its end
abbrev pub claim_of : List ℕ → List ℕ → List ℕ
claim_of path word =
    (codes "#!" space path space (split_at_first 58 word).0 space unwrap_or (split_at_first 58 word).1 []) ++ 10 ∷ []

-- the claims of a line of a table, if it is of the path of this name
abbrev pub claims_on : List ℕ → List ℕ → List ℕ
claims_on path line =
    if bytes_eq (split_word line).0 path then flat_map (claim_of path) (words_of (rights_on line)) else []

-- the claims of the lines of a table at a path
abbrev pub claims_at : Path → List (List ℕ) → List ℕ
claims_at path lines = flat_map (claims_on (path_text path)) lines
