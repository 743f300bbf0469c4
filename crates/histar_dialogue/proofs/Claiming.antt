-- Claims end their lines.
use Rattle.std.proofs.Common.{ℕ, Bool, true, false, List, [], ◌∷◌, refl, inl, inr}
use Rattle.std.specs.Prelude.{codes, if◌then◌else◌, unwrap_or}
use Rattle.std.specs.List.{flat_map}
use Rattle.std.specs.Str.{bytes_eq}
use Rattle.histar_flat.specs.Words.{Path, split_at_first}
use Rattle.histar_flat.specs.Texts.{path_text}
use Rattle.histar_script.specs.Laws.{EndsItsLines}
use Rattle.histar_script.specs.Lines.{split_word, ◌space◌}
use Rattle.histar_page.specs.Lines.{words_of}
use Rattle.histar_dialogue.specs.Claims.{claim_of, claims_at, claims_on, rights_on}
use Rattle.histar_dialogue.proofs.Fronts.{joined_ends}

-- texts that end their lines end them together
all_end : (text_of : List ℕ → List ℕ) → ((line : List ℕ) → EndsItsLines (text_of line)) → (lines : List (List ℕ))
    → EndsItsLines (flat_map text_of lines)
all_end text_of each [] = inl refl
all_end text_of each (line ∷ lines) = joined_ends (text_of line) (flat_map text_of lines) (each line) (all_end text_of each lines)

-- so does one claim
claim_ends : (path word : List ℕ) → EndsItsLines (claim_of path word)
claim_ends path word =
    inr ((codes "#!" space path space (split_at_first 58 word).0 space unwrap_or (split_at_first 58 word).1 []), refl)

-- and the claims of a line
line_ends : (path line : List ℕ) → EndsItsLines (claims_on path line)
line_ends path line = by (bytes_eq (split_word line).0 path)
  where
    by : (t : Bool) → EndsItsLines (if t then flat_map (claim_of path) (words_of (rights_on line)) else [])
    by true = all_end (claim_of path) (claim_ends path) (words_of (rights_on line))
    by false = inl refl

-- and those of a table
pub claims_end : (path : Path) (lines : List (List ℕ)) → EndsItsLines (claims_at path lines)
claims_end path lines = all_end (claims_on (path_text path)) (line_ends (path_text path)) lines
