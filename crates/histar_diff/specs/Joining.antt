-- The join of two lists of entries, each in the order of its keys: each key of one or of both, with its value in each.
use Rattle.std.specs.Prelude.{List, [], ◌∷◌, map, Option, None, Some, if◌then◌else◌}
use Rattle.std.specs.declared.cmp.Ordering.{Ordering}
use Rattle.std.specs.Ordering.{eq_by_cmp}
use Rattle.std.specs.FinMap.Entries.{by_order}

-- the values of a key in two lists: in the old one, in the new one, or in both
pub data Joined (A B : Type 0) : Type 0 where
  OnlyOld : A → Joined A B
  OnlyNew : B → Joined A B
  InBoth : A → B → Joined A B

-- the value in the old list
abbrev pub old_of : {A B : Type 0} → Joined A B → Option A
old_of (OnlyOld a) = Some a
old_of (OnlyNew b) = None
old_of (InBoth a b) = Some a

-- the value in the new list
abbrev pub new_of : {A B : Type 0} → Joined A B → Option B
new_of (OnlyOld a) = None
new_of (OnlyNew b) = Some b
new_of (InBoth a b) = Some b

module _ {K : Type 0} (R : K → K → Ordering) where
  -- an entry of the old list, and those after it, joined with the new list
  abbrev pub joined_from : {A B : Type 0} → K → A → (List (K × B) → List (K × Joined A B)) → List (K × B) → List (K × Joined A B)
  joined_from k a rest [] = (k, OnlyOld a) ∷ rest []
  joined_from k a rest (y ∷ ys) = by_order (R k y.0)
      ((k, OnlyOld a) ∷ rest (y ∷ ys))
      ((k, InBoth a y.1) ∷ rest ys)
      ((y.0, OnlyNew y.1) ∷ joined_from k a rest ys)

  -- the two lists joined
  abbrev pub joined : {A B : Type 0} → List (K × A) → List (K × B) → List (K × Joined A B)
  joined [] ys = map (λ y. (y.0, OnlyNew y.1)) ys
  joined (x ∷ xs) ys = joined_from x.0 x.1 (joined xs) ys

  -- the least key of the two
  abbrev pub lower : {A B : Type 0} → List (K × A) → List (K × B) → Option K
  lower [] [] = None
  lower [] (y ∷ ys) = Some y.0
  lower (x ∷ xs) [] = Some x.0
  lower (x ∷ xs) (y ∷ ys) = Some (by_order (R x.0 y.0) x.0 x.0 y.0)

  -- the value of the key, if the list begins with it
  abbrev pub at_key : {A : Type 0} → K → List (K × A) → Option A
  at_key k [] = None
  at_key k (x ∷ xs) = if eq_by_cmp R k x.0 then Some x.1 else None

  -- the list after the key, if it begins with it
  abbrev pub past_key : {A : Type 0} → K → List (K × A) → List (K × A)
  past_key k [] = []
  past_key k (x ∷ xs) = if eq_by_cmp R k x.0 then xs else x ∷ xs
