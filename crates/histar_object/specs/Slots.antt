-- The places of objects in a table: each number has a slot or none, and each slot an object or none.
use Rattle.std.specs.Prelude.{◌≡◌, ℕ, nat_eq, List, [], ◌∷◌, Option, None, Some, IsSome, slice_get, refl, suc}
use Rattle.std.specs.Coded.{Coded, code_by, coded×, coded_ℕ, coded_list}
use Rattle.std.specs.List.{IsDistinct}
use Rattle.std.specs.Map.{keys_of, lookup}

module _ {X : Type 0} where
  -- a number with its object, if it has one, and then the others
  abbrev pub place : ℕ → Option X → List (ℕ × X) → List (ℕ × X)
  place n None others = others
  place n (Some o) others = (n, o) ∷ others

  -- each number with the object of its slot
  abbrev pub placed : (ℕ → Option X) → List (ℕ × ℕ) → List (ℕ × X)
  placed at [] = []
  placed at (e ∷ slots) = place e.0 (at e.1) (placed at slots)

  -- each number has one slot, with its object; no two numbers have one slot, and no object is without a number
  pub record IsPlaced (at : ℕ → Option X) (slots : List (ℕ × ℕ)) : Type 0 where
    pub once : IsDistinct nat_eq (keys_of slots)
    pub filled : (q k : ℕ) → lookup (nat_eq q) slots ≡ Some k → IsSome (at k)
    pub apart : (p q k : ℕ) → lookup (nat_eq p) slots ≡ Some k → lookup (nat_eq q) slots ≡ Some k → p ≡ q
    pub named : (k : ℕ) → IsSome (at k) → (q : ℕ) × (lookup (nat_eq q) slots ≡ Some k)

-- the slots of numbers: each number that has one, with its slot, and for how many more there is room
pub record SlotsModel : Type 0 where
  pub entries : List (ℕ × ℕ)
  pub room : ℕ

abbrev pub coded_slots : Coded SlotsModel
coded_slots = code_by (List (ℕ × ℕ) × ℕ) (coded× (coded_list (coded× coded_ℕ coded_ℕ)) coded_ℕ) (λ s. (s.entries, s.room)) (λ p. record { entries = p.0; room = p.1 }) (λ _. refl)

-- the numbers from n on with their slots, those without one left out
abbrev pub numbered : ℕ → List (Option ℕ) → List (ℕ × ℕ)
numbered n [] = []
numbered n (slot ∷ slots) = place n slot (numbered (suc n) slots)

-- the inner value, where both are there
abbrev pub flat : Option (Option ℕ) → Option ℕ
flat None = None
flat (Some slot) = slot

-- the slot at the place of a number
abbrev pub in_place : List (Option ℕ) → ℕ → Option ℕ
in_place slots q = flat (slice_get slots q)

-- no number of the map is there twice, and none that has a slot in its place of the list is also in the map
pub record AreApart (listed : List (Option ℕ)) (others : List (ℕ × ℕ)) : Type 0 where
  pub once : IsDistinct nat_eq (keys_of others)
  pub apart : (q k : ℕ) → in_place listed q ≡ Some k → lookup (nat_eq q) others ≡ None
