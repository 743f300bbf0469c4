-- Words and parts that lack a separator are split off at it.
use Rattle.std.proofs.Common.{◌≡◌, ℕ, true, not, eqb, List, [], ◌∷◌, ◌++◌, Option, Some, None, refl, ap, ◌∙◌}
use Rattle.std.specs.Prelude.{◌==◌}
use Rattle.std.specs.List.{slice_split, onto_first}
use Rattle.std.proofs.lemmas.Bool.{and_parts, not-true}
use Rattle.std.proofs.lemmas.List.{append-nil}
use Rattle.std.proofs.lemmas.List.Splits.{slice_split-cons_yes, slice_split-cons_no}
use Rattle.histar_flat.specs.Words.{split_at_first}
use Rattle.histar_flat.proofs.SplitLemmas.{lacks, split_before, split_alone}
use Rattle.histar_rawtext.proofs.Parting.{spaced}

-- words with a space between two, if there are any
abbrev pub joined : List (List ℕ) → Option (List ℕ)
joined [] = None
joined (w ∷ ws) = Some (w ++ spaced ws)

-- the first word, and those after it
pub split_spaced : (w : List ℕ) (ws : List (List ℕ)) → lacks 32 w ≡ true → split_at_first 32 (w ++ spaced ws) ≡ (w, joined ws)
split_spaced w [] h = ap (split_at_first 32) (append-nil w) ∙ split_alone 32 w h
split_spaced w (v ∷ ws) h = split_before 32 w (v ++ spaced ws) h

-- a part before a comma is the first of the parts
pub part_before : (w rest : List ℕ) → lacks 44 w ≡ true → slice_split (λ c. c == 44) (w ++ 44 ∷ rest) ≡ w ∷ slice_split (λ c. c == 44) rest
part_before [] rest h = slice_split-cons_yes (λ c. c == 44) 44 rest refl
part_before (b ∷ w) rest h =
    let parts = and_parts (not (eqb b 44)) (lacks 44 w) h in
    slice_split-cons_no (λ c. c == 44) b (w ++ 44 ∷ rest) (not-true (eqb b 44) parts.0) ∙ ap (onto_first b) (part_before w rest parts.1)

-- without a comma there is one part
pub part_alone : (w : List ℕ) → lacks 44 w ≡ true → slice_split (λ c. c == 44) w ≡ w ∷ []
part_alone [] h = refl
part_alone (b ∷ w) h =
    let parts = and_parts (not (eqb b 44)) (lacks 44 w) h in
    slice_split-cons_no (λ c. c == 44) b w (not-true (eqb b 44) parts.0) ∙ ap (onto_first b) (part_alone w parts.1)
