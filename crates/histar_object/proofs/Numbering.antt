-- Looking up slots in a list by places and in a map after it, where no number is there twice.
use Prim.Native.Nat as Nat
use Rattle.std.proofs.Common.{◌≡◌, ℕ, suc, ◌+◌, ◌<◌, Bool, true, false, cond, List, [], ◌∷◌, ◌++◌, length, Option, None, Some, inl, inr}
use Rattle.std.proofs.Common.{refl, sym, ap, subst, ◌∙◌, arith}
use Rattle.std.specs.Prelude.{nat_eq, slice_set}
use Rattle.std.specs.Cmp.{nat_eq_equiv}
use Rattle.std.specs.List.{IsDistinct, AllByRecursion}
use Rattle.std.specs.Map.{keys_of, lookup}
use mathlib.Core.Bool.{false≢true}
use Rattle.std.proofs.Math.Dec.{eqb-suc-suc, eqb-suc-zero, eqb-zero-suc}
use Rattle.std.proofs.lemmas.Bool.{ne_eqb}
use Rattle.std.proofs.lemmas.Bool.Decides.{eqb_tells}
use Rattle.std.proofs.lemmas.Option.{slice_get_cases}
use Rattle.histar_object.specs.Slots.{numbered, flat, in_place, AreApart}

-- the slot that a number has
abbrev slot_at : List (ℕ × ℕ) → ℕ → Option ℕ
slot_at slots q = lookup (nat_eq q) slots

-- none of these numbers is n
abbrev IsApart : ℕ → List (ℕ × ℕ) → Type 0
IsApart n slots = AllByRecursion (λ m. nat_eq n m ≡ false) (keys_of slots)

-- the first, where it is found, and otherwise the second
abbrev or_else : Option ℕ → Option ℕ → Option ℕ
or_else None later = later
or_else (Some k) later = Some k

-- where neither is found, the first is not
first_none : (a b : Option ℕ) → or_else a b ≡ None → a ≡ None
first_none None b none = refl
first_none (Some k) b none = none

-- where neither is found, the second is not
second_none : (a b : Option ℕ) → or_else a b ≡ None → b ≡ None
second_none None b none = none
second_none (Some k) b none = absurd (cc)

-- a number before another is not that one
unlike : (n q : ℕ) → q < n → nat_eq q n ≡ false
unlike n q less = ne_eqb q n (λ e. omega (arith, e, less))

-- the list in places has no number before its first
behind : (n q : ℕ) (xs : List (Option ℕ)) (fs : List (ℕ × ℕ)) → q < n → slot_at (numbered n xs ++ fs) q ≡ slot_at fs q
behind n q [] fs less = refl
behind n q (None ∷ xs) fs less = behind (suc n) q xs fs (omega (arith, less))
behind n q (Some k ∷ xs) fs less =
    ap (λ b. cond b (Some k) (slot_at (numbered (suc n) xs ++ fs) q)) (unlike n q less)
    ∙ behind (suc n) q xs fs (omega (arith, less))

-- a number is looked up at its place in the list first, and then in the map
ahead : (n j q : ℕ) (xs : List (Option ℕ)) (fs : List (ℕ × ℕ)) → q ≡ n + j → slot_at (numbered n xs ++ fs) q ≡ or_else (in_place xs j) (slot_at fs q)
ahead n j q [] fs is = refl
ahead n Nat.zero q (None ∷ xs) fs is = behind (suc n) q xs fs (omega (arith, is))
ahead n Nat.zero q (Some k ∷ xs) fs is =
    let here : nat_eq q n ≡ true = ap (λ m. nat_eq m n) (omega (arith, is)) ∙ nat_eq_equiv.refl n in
    ap (λ b. cond b (Some k) (slot_at (numbered (suc n) xs ++ fs) q)) here
ahead n (suc j) q (None ∷ xs) fs is = ahead (suc n) j q xs fs (omega (arith, is))
ahead n (suc j) q (Some k ∷ xs) fs is =
    let there : nat_eq q n ≡ false = ne_eqb q n (λ e. omega (arith, e, is)) in
    ap (λ b. cond b (Some k) (slot_at (numbered (suc n) xs ++ fs) q)) there ∙ ahead (suc n) j q xs fs (omega (arith, is))

-- the slot of a number is in its place of the list, and otherwise in the map
pub found_in_either : (q : ℕ) (xs : List (Option ℕ)) (fs : List (ℕ × ℕ)) → slot_at (numbered 0 xs ++ fs) q ≡ or_else (in_place xs q) (slot_at fs q)
found_in_either q xs fs = ahead 0 q q xs fs (omega arith)

-- a number that is not found is none of these
apart_none : (n : ℕ) (fs : List (ℕ × ℕ)) → slot_at fs n ≡ None → IsApart n fs
apart_none n [] none = tt
apart_none n (e ∷ fs) none = elim (eqb_tells n e.0) [
  | inl same ↦ absurd (let found : None ≡ Some e.1 = sym none ∙ ap (λ b. cond b (Some e.1) (slot_at fs n)) same.0 in cc)
  | inr other ↦ (other.0, apart_none n fs (sym (ap (λ b. cond b (Some e.1) (slot_at fs n)) other.0) ∙ none))
]

-- a number before a list, and not in the map, is in neither
apart_before : (n m : ℕ) (xs : List (Option ℕ)) (fs : List (ℕ × ℕ)) → n < m → IsApart n fs → IsApart n (numbered m xs ++ fs)
apart_before n m [] fs less apart = apart
apart_before n m (None ∷ xs) fs less apart = apart_before n (suc m) xs fs (omega (arith, less)) apart
apart_before n m (Some k ∷ xs) fs less apart = (unlike m n less, apart_before n (suc m) xs fs (omega (arith, less)) apart)

-- no number of a list from n on and of a map is there twice
distinct_from : (n : ℕ) (xs : List (Option ℕ)) (fs : List (ℕ × ℕ)) → IsDistinct nat_eq (keys_of fs)
    → ((j q k : ℕ) → q ≡ n + j → in_place xs j ≡ Some k → slot_at fs q ≡ None) → IsDistinct nat_eq (keys_of (numbered n xs ++ fs))
unfolding IsDistinct
distinct_from n [] fs once apart = once
distinct_from n (None ∷ xs) fs once apart = distinct_from (suc n) xs fs once (λ j q k is found. apart (suc j) q k (omega (arith, is)) found)
distinct_from n (Some k ∷ xs) fs once apart = (
  apart_before n (suc n) xs fs (omega arith) (apart_none n fs (apart 0 n k (omega arith) refl)),
  distinct_from (suc n) xs fs once (λ j q i is found. apart (suc j) q i (omega (arith, is)) found),
)

-- no number of a list and of a map apart from it is there twice
pub distinct_in_both : (xs : List (Option ℕ)) (fs : List (ℕ × ℕ)) → AreApart xs fs → IsDistinct nat_eq (keys_of (numbered 0 xs ++ fs))
distinct_in_both xs fs are = distinct_from 0 xs fs are.once (λ j q k is found. are.apart q k (ap (in_place xs) (omega (arith, is)) ∙ found))

-- a choice between two missing values is missing
none_either : (b : Bool) → ◌≡◌ {A = Option ℕ} None (cond b None None)
none_either true = refl
none_either false = refl

-- one more place at the end of a list
pushed : (q : ℕ) (xs : List (Option ℕ)) (w : Option ℕ) → in_place (xs ++ w ∷ []) q ≡ cond (nat_eq (length xs) q) w (in_place xs q)
pushed Nat.zero [] w = refl
pushed (suc q) [] w = sym (ap (λ b. cond b w None) (eqb-zero-suc q))
pushed Nat.zero (x ∷ xs) w = sym (ap (λ b. cond b w x) (eqb-suc-zero (length xs)))
pushed (suc q) (x ∷ xs) w = pushed q xs w ∙ sym (ap (λ b. cond b w (in_place xs q)) (eqb-suc-suc (length xs) q))

-- a place that is emptied
emptied : (q i : ℕ) (xs : List (Option ℕ)) → in_place (slice_set xs i None) q ≡ cond (nat_eq i q) None (in_place xs q)
emptied q i [] = none_either (nat_eq i q)
emptied Nat.zero Nat.zero (x ∷ xs) = refl
emptied (suc q) Nat.zero (x ∷ xs) = sym (ap (λ b. cond b None (in_place xs q)) (eqb-zero-suc q))
emptied Nat.zero (suc i) (x ∷ xs) = sym (ap (λ b. cond b None x) (eqb-suc-zero i))
emptied (suc q) (suc i) (x ∷ xs) = emptied q i xs ∙ sym (ap (λ b. cond b None (in_place xs q)) (eqb-suc-suc i q))

-- a place without a slot has none
pub nothing_placed : (q : ℕ) → in_place (None ∷ []) q ≡ None
nothing_placed Nat.zero = refl
nothing_placed (suc q) = refl

-- a number that has a slot in its place has a place
pub in_place_within : (q k : ℕ) (xs : List (Option ℕ)) → in_place xs q ≡ Some k → q < length xs
in_place_within q k xs found = elim (slice_get_cases xs q).1 [
  | inl here ↦ here.1
  | inr past ↦ absurd (let both : None ≡ Some k = ap flat (sym past.1) ∙ found in cc)
]

-- the value found first changes
first_changes : (b : Bool) (k : ℕ) (a c : Option ℕ) → or_else (cond b (Some k) a) c ≡ cond b (Some k) (or_else a c)
first_changes true k a c = refl
first_changes false k a c = refl

-- the value found second changes, where none is found first
second_changes : (b : Bool) (w a c : Option ℕ) → (b ≡ true → a ≡ None) → or_else a (cond b w c) ≡ cond b w (or_else a c)
second_changes true w a c none = ap (λ o. or_else o w) (none refl)
second_changes false w a c none = refl

-- the value found first goes, where none is found second
first_leaves : (b : Bool) (a c : Option ℕ) → (b ≡ true → c ≡ None) → or_else (cond b None a) c ≡ cond b None (or_else a c)
first_leaves true a c none = none refl
first_leaves false a c none = refl

-- a fact of a number holds of the number that it is equal to
of_equal : (P : ℕ → Type 0) (n q : ℕ) → P n → nat_eq n q ≡ true → P q
of_equal P n q holds equal = elim (eqb_tells n q) [
  | inl same ↦ subst P same.1 holds
  | inr other ↦ absurd (false≢true (sym other.0 ∙ equal))
]

module _ (xs : List (Option ℕ)) (fs : List (ℕ × ℕ)) where
  -- a number that is found in neither has no slot in its place
  pub none_in_place : (n : ℕ) → slot_at (numbered 0 xs ++ fs) n ≡ None → in_place xs n ≡ None
  none_in_place n none = first_none (in_place xs n) (slot_at fs n) (sym (found_in_either n xs fs) ∙ none)

  -- nor is it in the map
  pub none_in_map : (n : ℕ) → slot_at (numbered 0 xs ++ fs) n ≡ None → slot_at fs n ≡ None
  none_in_map n none = second_none (in_place xs n) (slot_at fs n) (sym (found_in_either n xs fs) ∙ none)

  -- a slot in a number's place is found
  pub found_in_place : (n k : ℕ) → in_place xs n ≡ Some k → slot_at (numbered 0 xs ++ fs) n ≡ Some k
  found_in_place n k here = found_in_either n xs fs ∙ ap (λ a. or_else a (slot_at fs n)) here

  -- where no slot is in its place, it is looked up in the map
  pub found_in_map : (n : ℕ) → in_place xs n ≡ None → slot_at (numbered 0 xs ++ fs) n ≡ slot_at fs n
  found_in_map n none = found_in_either n xs fs ∙ ap (λ a. or_else a (slot_at fs n)) none

  -- where list and map each give the same for each number, they do together
  pub found_alike : (ys : List (Option ℕ)) (gs : List (ℕ × ℕ)) (q : ℕ) → in_place ys q ≡ in_place xs q → slot_at gs q ≡ slot_at fs q
      → slot_at (numbered 0 ys ++ gs) q ≡ slot_at (numbered 0 xs ++ fs) q
  found_alike ys gs q first second = found_in_either q ys gs ∙ (λ i. or_else (first i) (second i)) ∙ sym (found_in_either q xs fs)

  module _ (n : ℕ) where
    -- a number that is found in neither gets a slot at the end of the list
    pub found_pushed : (k : ℕ) → length xs ≡ n → (q : ℕ)
        → slot_at (numbered 0 (xs ++ Some k ∷ []) ++ fs) q
        ≡ cond (nat_eq n q) (Some k) (slot_at (numbered 0 xs ++ fs) q)
    found_pushed k at q =
        found_in_either q (xs ++ Some k ∷ []) fs ∙ ap (λ a. or_else a (slot_at fs q)) (pushed q xs (Some k))
        ∙ first_changes (nat_eq (length xs) q) k (in_place xs q) (slot_at fs q)
        ∙ (λ i. cond (nat_eq (at i) q) (Some k) (sym (found_in_either q xs fs) i))

    -- the map changes at a number that has no slot in its place
    pub found_put : (gs : List (ℕ × ℕ)) (w : Option ℕ) → in_place xs n ≡ None → (q : ℕ) → slot_at gs q ≡ cond (nat_eq n q) w (slot_at fs q)
        → slot_at (numbered 0 xs ++ gs) q ≡ cond (nat_eq n q) w (slot_at (numbered 0 xs ++ fs) q)
    found_put gs w none q updated =
        found_in_either q xs gs ∙ ap (or_else (in_place xs q)) updated
        ∙ second_changes (nat_eq n q) w (in_place xs q) (slot_at fs q) (of_equal (λ m. in_place xs m ≡ None) n q none)
        ∙ ap (cond (nat_eq n q) w) (sym (found_in_either q xs fs))

    -- the place of a number that is not in the map is emptied
    pub found_emptied : slot_at fs n ≡ None → (q : ℕ)
        → slot_at (numbered 0 (slice_set xs n None) ++ fs) q ≡ cond (nat_eq n q) None (slot_at (numbered 0 xs ++ fs) q)
    found_emptied none q =
        found_in_either q (slice_set xs n None) fs ∙ ap (λ a. or_else a (slot_at fs q)) (emptied q n xs)
        ∙ first_leaves (nat_eq n q) (in_place xs q) (slot_at fs q) (of_equal (λ m. slot_at fs m ≡ None) n q none)
        ∙ ap (cond (nat_eq n q) None) (sym (found_in_either q xs fs))

  module _ (are : AreApart xs fs) where
    -- list and map stay apart where both give the same for each number
    pub AreApart-alike : (ys : List (Option ℕ)) (gs : List (ℕ × ℕ)) → IsDistinct nat_eq (keys_of gs) → ((q : ℕ) → in_place ys q ≡ in_place xs q)
        → ((q : ℕ) → slot_at gs q ≡ slot_at fs q) → AreApart ys gs
    AreApart-alike ys gs once first second = record { once = once; apart = λ q k found. second q ∙ are.apart q k (sym (first q) ∙ found) }

    -- where a slot is added at the end of the list
    pub AreApart-pushed : (n k : ℕ) → length xs ≡ n → slot_at fs n ≡ None → AreApart (xs ++ Some k ∷ []) fs
    AreApart-pushed n k at none = record {
      once = are.once;
      apart = λ q j found. elim (eqb_tells (length xs) q) [
        | inl same ↦ ap (λ m. slot_at fs m) (sym same.1 ∙ at) ∙ none
        | inr other ↦ are.apart q j (sym (pushed q xs (Some k) ∙ ap (λ b. cond b (Some k) (in_place xs q)) other.0) ∙ found)
      ];
    }

    -- where another map changes at a number that has no slot in its place
    pub AreApart-put : (n : ℕ) (gs : List (ℕ × ℕ)) (w : Option ℕ) → in_place xs n ≡ None → IsDistinct nat_eq (keys_of gs)
        → ((q : ℕ) → slot_at gs q ≡ cond (nat_eq n q) w (slot_at fs q)) → AreApart xs gs
    AreApart-put n gs w none once updated = record {
      once = once;
      apart = λ q j found. elim (eqb_tells n q) [
        | inl same ↦ absurd (let both : Some j ≡ None = sym found ∙ ap (in_place xs) (sym same.1) ∙ none in cc)
        | inr other ↦ updated q ∙ ap (λ b. cond b w (slot_at fs q)) other.0 ∙ are.apart q j found
      ];
    }

    -- and where a place is emptied
    pub AreApart-emptied : (n : ℕ) → AreApart (slice_set xs n None) fs
    AreApart-emptied n = record {
      once = are.once;
      apart = λ q j found. elim (eqb_tells n q) [
        | inl same ↦ absurd (let both : Some j ≡ None = sym found ∙ emptied q n xs ∙ ap (λ b. cond b None (in_place xs q)) same.0 in cc)
        | inr other ↦ are.apart q j (sym (emptied q n xs ∙ ap (λ b. cond b None (in_place xs q)) other.0) ∙ found)
      ];
    }
