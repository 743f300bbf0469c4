-- Tests and options one after another.
use Rattle.std.proofs.Common.{◌≡◌, ◌<◌, true, false, eqb, List, [], ◌∷◌, length, Option, Some, None, refl, arith}
use Rattle.std.specs.Option.{option_map}
use Rattle.std.proofs.lemmas.Bool.{eqb-true, ne_eqb}
use Rattle.std.proofs.lemmas.List.{nil_from_length}

-- a mapped value came from one
pub mapped : {A B : Type 0} (o : Option A) (f : A → B) (y : B) → option_map f o ≡ Some y → (x : A) × (o ≡ Some x) × (f x ≡ y)
mapped None f y e = absurd cc
mapped (Some x) f y e = (x, refl, cc)

-- a list of length 0 is empty
pub none_left : {X : Type 0} (xs : List X) → eqb (length xs) 0 ≡ true → xs ≡ []
none_left xs h = nil_from_length xs (eqb-true (length xs) 0 h)

-- a list of another length is not empty
pub some_left : {X : Type 0} (xs : List X) → eqb (length xs) 0 ≡ false → 0 < length xs
some_left [] h = absurd cc
some_left (x ∷ xs) h = omega arith

-- a list that is not empty has another length
pub not_empty : {X : Type 0} (xs : List X) → 0 < length xs → eqb (length xs) 0 ≡ false
not_empty xs h = ne_eqb (length xs) 0 (λ e. omega arith)
