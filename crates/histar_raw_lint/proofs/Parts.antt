-- Texts that are parted at their first separator, put together again.
use Rattle.std.proofs.Common.{◌≡◌, ℕ, Bool, true, false, cond, eqb, List, [], ◌∷◌, ◌++◌, Option, Some, None, refl, ap, arith}
use Rattle.std.proofs.lemmas.Bool.Decides.{nat_tests}
use Rattle.histar_flat.specs.Words.{split_at_first}

split_by : (s b : ℕ) (rest bs : List ℕ) (same : Bool) (later : List ℕ × Option (List ℕ)) → eqb b s ≡ same
    → (later.1 ≡ Some rest → bs ≡ later.0 ++ s ∷ rest)
    → (cond {A = List ℕ × Option (List ℕ)} same ([], Some bs) (b ∷ later.0, later.1)).1 ≡ Some rest
    → b ∷ bs ≡ (cond {A = List ℕ × Option (List ℕ)} same ([], Some bs) (b ∷ later.0, later.1)).0 ++ s ∷ rest
split_by s b rest bs true later is go_on e =
    let head : b ≡ s = grind (arith, nat_tests) in
    let tail : bs ≡ rest = cc in
    λ i. head i ∷ tail i
split_by s b rest bs false later is go_on e = ap (λ (text : List ℕ). b ∷ text) (go_on e)

-- a text consists of the part before the first separator, the separator, and the part after it
pub split_back : (s : ℕ) (text rest : List ℕ) → (split_at_first s text).1 ≡ Some rest → text ≡ (split_at_first s text).0 ++ s ∷ rest
unfolding split_at_first
split_back s [] rest e = absurd cc
split_back s (b ∷ bs) rest e = split_by s b rest bs (eqb b s) (split_at_first s bs) refl (split_back s bs rest) e

whole_by : (s b : ℕ) (bs : List ℕ) (same : Bool) (later : List ℕ × Option (List ℕ)) → (later.1 ≡ None → bs ≡ later.0)
    → (cond {A = List ℕ × Option (List ℕ)} same ([], Some bs) (b ∷ later.0, later.1)).1 ≡ None
    → b ∷ bs ≡ (cond {A = List ℕ × Option (List ℕ)} same ([], Some bs) (b ∷ later.0, later.1)).0
whole_by s b bs true later go_on e = absurd cc
whole_by s b bs false later go_on e = ap (λ (text : List ℕ). b ∷ text) (go_on e)

-- without a separator the text is one part
pub whole_back : (s : ℕ) (text : List ℕ) → (split_at_first s text).1 ≡ None → text ≡ (split_at_first s text).0
unfolding split_at_first
whole_back s [] e = refl
whole_back s (b ∷ bs) e = whole_by s b bs (eqb b s) (split_at_first s bs) (whole_back s bs) e
