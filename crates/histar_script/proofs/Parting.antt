-- Texts that are split at their first separator.
use Rattle.std.proofs.Common.{◌≡◌, ℕ, Bool, true, false, cond, eqb, List, [], ◌∷◌, ◌++◌, Option, Some, None, refl, ap, ◌∙◌}
use Rattle.std.proofs.lemmas.Bool.{eqb-true}
use Rattle.histar_flat.specs.Words.{split_at_first}
use Rattle.histar_script.specs.Lines.{split_word, ◌space◌}

-- the parts of a text
abbrev Parts : Type 0
Parts = List ℕ × Option (List ℕ)

-- one step of the split
abbrev parts_with : Bool → ℕ → List ℕ → Parts → Parts
parts_with t b bs w = cond t ([], Some bs) (b ∷ w.0, w.1)

-- the parts make up the text: one step
parts_step : (a b : ℕ) (bs rest : List ℕ) (w : Parts) (t : Bool) → eqb b a ≡ t
    → (w.1 ≡ Some rest → bs ≡ w.0 ++ a ∷ rest) → (parts_with t b bs w).1 ≡ Some rest
    → b ∷ bs ≡ (parts_with t b bs w).0 ++ a ∷ rest
parts_step a b bs rest w true is later e = let same : b ≡ a = eqb-true b a is in let tail : bs ≡ rest = cc in rw (same, tail) refl
parts_step a b bs rest w false is later e = ap (λ (l : List ℕ). b ∷ l) (later e)

-- the parts around the first separator make up the text
pub split_parts : (a : ℕ) (text rest : List ℕ) → (split_at_first a text).1 ≡ Some rest → text ≡ (split_at_first a text).0 ++ a ∷ rest
unfolding split_at_first
split_parts a [] rest e = absurd cc
split_parts a (b ∷ bs) rest e = parts_step a b bs rest (split_at_first a bs) (eqb b a) refl (split_parts a bs rest) e

-- the only part is the text: one step
part_step : (b : ℕ) (bs : List ℕ) (w : Parts) (t : Bool) → (w.1 ≡ None → bs ≡ w.0) → (parts_with t b bs w).1 ≡ None → b ∷ bs ≡ (parts_with t b bs w).0
part_step b bs w true later e = absurd cc
part_step b bs w false later e = ap (λ (l : List ℕ). b ∷ l) (later e)

-- the only part is the text
pub split_part : (a : ℕ) (text : List ℕ) → (split_at_first a text).1 ≡ None → text ≡ (split_at_first a text).0
unfolding split_at_first
split_part a [] e = refl
split_part a (b ∷ bs) e = part_step b bs (split_at_first a bs) (eqb b a) (split_part a bs) e

-- a text with these words around its first space
pub parted : (text word rest : List ℕ) → (split_word text).0 ≡ word → (split_word text).1 ≡ Some rest → text ≡ word space rest
parted text word rest first after = split_parts 32 text rest after ∙ ap (λ (l : List ℕ). l space rest) first
