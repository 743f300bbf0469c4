-- A text is split at its commas, the first part first.
use Rattle.std.proofs.Common.{◌≡◌, ℕ, ◌+◌, ◌<◌, Bool, true, false, eqb, List, [], ◌∷◌, ◌++◌}
use Rattle.std.proofs.Common.{map, length, Bor, Option, Some, None, refl}
use Rattle.std.proofs.Common.{sym, ap, ap₂, ◌∙◌, append_assoc, arith}
use Rattle.std.specs.Prelude.{◌==◌}
use Rattle.std.specs.List.{slice_split, onto_first}
use Rattle.std.specs.Option.{option_copied}
use Rattle.std.proofs.lemmas.List.{map_push}
use Rattle.std.proofs.lemmas.List.Splits.{slice_split-cons_yes, slice_split-cons_no}
use Rattle.histar_flat.specs.Words.{split_at_first}

-- the parts of what is left, if there is something
abbrev pub parts_left : Option (List ℕ) → List (List ℕ)
parts_left None = []
parts_left (Some text) = slice_split (λ c. c == 44) text

-- how much is left
abbrev pub size_left : Option (List ℕ) → ℕ
size_left None = 0
size_left (Some text) = length text + 1

-- the first part, and those of what follows its comma
pub first_part : (text : List ℕ) → slice_split (λ c. c == 44) text ≡ (split_at_first 44 text).0 ∷ parts_left (split_at_first 44 text).1
unfolding split_at_first
first_part [] = refl
first_part (b ∷ bs) = by (eqb b 44) refl (first_part bs)
  where
    by : (t : Bool) → eqb b 44 ≡ t
        → slice_split (λ c. c == 44) bs ≡ (split_at_first 44 bs).0 ∷ parts_left (split_at_first 44 bs).1
        → slice_split (λ c. c == 44) (b ∷ bs) ≡ (split_at_first 44 (b ∷ bs)).0 ∷ parts_left (split_at_first 44 (b ∷ bs)).1
    by true e later = slice_split-cons_yes (λ c. c == 44) b bs e ∙ rw e refl
    by false e later = slice_split-cons_no (λ c. c == 44) b bs e ∙ ap (onto_first b) later ∙ rw e refl

-- behind a comma less is left
pub less_left : (text : List ℕ) → size_left (split_at_first 44 text).1 < length text + 1
unfolding split_at_first
less_left [] = omega arith
less_left (b ∷ bs) = by (eqb b 44) refl (less_left bs)
  where
    by : (t : Bool) → eqb b 44 ≡ t → size_left (split_at_first 44 bs).1 < length bs + 1
        → size_left (split_at_first 44 (b ∷ bs)).1 < length (b ∷ bs) + 1
    by true e less = rw e (omega arith)
    by false e less = rw e (omega (arith, less))

-- so a loop that goes on there ends
pub goes_on : (rest : Option (Bor (List ℕ))) (text : Bor (List ℕ)) (after : Option (List ℕ)) → rest ≡ Some text
    → after ≡ (split_at_first 44 text.now).1 → size_left after < size_left (option_copied rest)
goes_on rest text after is next = rw (is, next) (less_left text.now)

-- one part more
pub one_more : (parts new : List (Bor (List ℕ))) (part : Bor (List ℕ)) (text : List ℕ) (after : Option (List ℕ)) (all : List (List ℕ))
    → map (λ p. p.now) parts ++ slice_split (λ c. c == 44) text ≡ all
    → part.now ≡ (split_at_first 44 text).0 → after ≡ (split_at_first 44 text).1 → new ≡ parts ++ part ∷ []
    → map (λ p. p.now) new ++ parts_left after ≡ all
one_more parts new part text after all so_far is rest more =
    let shown = λ (p : Bor (List ℕ)). p.now in
    ap (λ (ps : List (Bor (List ℕ))). map shown ps ++ parts_left after) more
    ∙ ap (λ (ps : List (List ℕ)). ps ++ parts_left after) (map_push shown parts part)
    ∙ append_assoc (map shown parts) (part.now ∷ []) (parts_left after)
    ∙ ap (λ (ps : List (List ℕ)). map shown parts ++ ps) (ap₂ (λ (first : List ℕ) (o : Option (List ℕ)). first ∷ parts_left o) is rest
    ∙ sym (first_part text))
    ∙ so_far
