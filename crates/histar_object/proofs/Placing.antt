-- Looking up objects in a table of slots, before and after a change of one number.
use Rattle.std.proofs.Common.{◌≡◌, ◌≢◌, ℕ, true, false, cond, List, [], ◌∷◌, Option, None, Some, IsSome, ◌↔◌, inl, inr, if◌then◌else◌, refl, sym, ap}
use Rattle.std.proofs.Common.{subst, ◌∙◌, arith}
use Rattle.std.specs.Prelude.{◌==◌, nat_eq, is_some}
use Rattle.std.proofs.lemmas.List.Sums.{sum_by-set}
use mathlib.Core.Bool.{false≢true}
use Rattle.std.proofs.lemmas.Bool.Decides.{eqb_tells}
use Rattle.std.specs.Ordering.{nat_cmp}
use Rattle.std.specs.Cmp.{unsigned_tied, nat_eq_equiv}
use Rattle.std.specs.List.{IsDistinct, AllByRecursion}
use Rattle.std.specs.Map.{keys_of, lookup}
use Rattle.std.specs.BTreeMap.{is_at}
use Rattle.slab.specs.Slab.{Slab, get, slab_len, ContainsKey, with_value}
use Rattle.slab.proofs.SlabLemmas.{ContainsKey-within}
use Rattle.histar_object.specs.Slots.{place, placed, IsPlaced}

-- the slot that a number has
abbrev pub slot_at : List (ℕ × ℕ) → ℕ → Option ℕ
slot_at slots q = lookup (nat_eq q) slots

-- the object that a number has
abbrev pub object_at : {X : Type 0} → List (ℕ × X) → ℕ → Option X
object_at es q = lookup (is_at (nat_cmp q)) es

-- the number n has the slot w, and every other number the slot that it had
abbrev pub HasSlot : List (ℕ × ℕ) → List (ℕ × ℕ) → ℕ → Option ℕ → Type 0
HasSlot es fs n w = (q : ℕ) → slot_at fs q ≡ cond (nat_eq n q) w (slot_at es q)

-- so all others keep their slots
pub other_slots : (es fs : List (ℕ × ℕ)) (n : ℕ) (w : Option ℕ) → HasSlot es fs n w → (q : ℕ) → q ≢ n → slot_at fs q ≡ slot_at es q
other_slots es fs n w updated q differs = elim (eqb_tells n q) [
  | inl same ↦ absurd (differs (sym same.1))
  | inr other ↦ updated q ∙ ap (λ b. cond b w (slot_at es q)) other.0
]

-- each slot of a number has an object
abbrev Filled : {X : Type 0} → (ℕ → Option X) → List (ℕ × ℕ) → Type 0
Filled at slots = (q k : ℕ) → slot_at slots q ≡ Some k → IsSome (at k)

-- none of these numbers is n
abbrev IsApart : ℕ → List (ℕ × ℕ) → Type 0
IsApart n slots = AllByRecursion (λ m. nat_eq n m ≡ false) (keys_of slots)

-- all slots except s keep their objects
abbrev KeepsOthers : {X : Type 0} → (ℕ → Option X) → (ℕ → Option X) → ℕ → Type 0
KeepsOthers at new_at s = (k : ℕ) → k ≢ s → new_at k ≡ at k

-- a missing value is not there
none_or_some : {A : Type 0} (k : A) → None ≡ Some k → ⊥
none_or_some k h = cc

-- a value that is there is one value
one_some : (j k : ℕ) → Some j ≡ Some k → j ≡ k
one_some j k h = cc

-- a number that comes before the others has no slot among them
none_behind : (n : ℕ) (slots : List (ℕ × ℕ)) → IsApart n slots → slot_at slots n ≡ None
none_behind n [] apart = refl
none_behind n (e ∷ slots) apart = ap (λ b. cond b (Some e.1) (slot_at slots n)) apart.0 ∙ none_behind n slots apart.1

module _ {X : Type 0} (at : ℕ → Option X) where
  -- the object of a slot, if there is a slot
  abbrev pub found : Option ℕ → Option X
  found None = None
  found (Some k) = at k

  -- one step of a search: the object before the others has the number, or the search goes on
  found_step : (e : ℕ × ℕ) (o : Option X) (others : List (ℕ × X)) (q : ℕ) (later : Option ℕ) → at e.1 ≡ o → IsSome o
      → object_at others q ≡ found later
      → object_at (place e.0 o others) q ≡ found (cond (nat_eq q e.0) (Some e.1) later)
  found_step e None others q later is some rest = absurd (false≢true some)
  found_step e (Some o) others q later is some rest =
      ap (λ b. cond b (Some o) (object_at others q)) (unsigned_tied q e.0)
      ∙ elim (nat_eq q e.0) as (λ b. cond b (Some o) (object_at others q) ≡ found (cond b (Some e.1) later)) [
        | true ↦ sym is
        | false ↦ rest
      ]

  -- the slots after the first one have objects too
  filled_behind : (e : ℕ × ℕ) (slots : List (ℕ × ℕ)) → IsApart e.0 slots → Filled at (e ∷ slots) → Filled at slots
  filled_behind e slots apart filled q k is = elim (eqb_tells q e.0) [
    | inl same ↦ absurd (none_or_some k (sym (none_behind e.0 slots apart) ∙ ap (λ n. slot_at slots n) (sym same.1) ∙ is))
    | inr other ↦ filled q k (ap (λ b. cond b (Some e.1) (slot_at slots q)) other.0 ∙ is)
  ]

  -- the object of a number is that of its slot
  found_by_slot : (slots : List (ℕ × ℕ)) → IsDistinct nat_eq (keys_of slots) → Filled at slots → (q : ℕ)
      → object_at (placed at slots) q ≡ found (slot_at slots q)
  unfolding IsDistinct
  found_by_slot [] once filled q = refl
  found_by_slot (e ∷ slots) once filled q =
      let here : IsSome (at e.1) = filled e.0 e.1 (ap (λ b. cond b (Some e.1) (slot_at slots e.0)) (nat_eq_equiv.refl e.0)) in
      found_step e (at e.1) (placed at slots) q (slot_at slots q) refl here (found_by_slot slots once.1 (filled_behind e slots once.0 filled) q)

  -- so it is in a table, for each number
  pub lookup-placed : (slots : List (ℕ × ℕ)) → IsPlaced at slots → (q : ℕ) → object_at (placed at slots) q ≡ found (slot_at slots q)
  lookup-placed slots is q = found_by_slot slots is.once is.filled q

  -- where the number has a slot, it is the object of the slot
  pub found_at : (slots : List (ℕ × ℕ)) → IsPlaced at slots → (q k : ℕ) → Some k ≡ slot_at slots q → at k ≡ object_at (placed at slots) q
  found_at slots is q k here = ap found here ∙ sym (lookup-placed slots is q)

  -- where the number has no slot, it has no object
  pub none_at : (slots : List (ℕ × ℕ)) → IsPlaced at slots → (q : ℕ) → slot_at slots q ≡ None → object_at (placed at slots) q ≡ None
  none_at slots is q none = lookup-placed slots is q ∙ ap found none

  -- a slot of a number has an object
  slot_revealed : (o : Option ℕ) → ((k : ℕ) → o ≡ Some k → IsSome (at k)) → found o ≡ None → o ≡ None
  slot_revealed None filled none = refl
  slot_revealed (Some k) filled none = absurd (false≢true (ap is_some (sym none) ∙ filled k refl))

  -- where there is no object, the number has no slot
  pub no_slot : (slots : List (ℕ × ℕ)) → IsPlaced at slots → (q : ℕ) → object_at (placed at slots) q ≡ None → slot_at slots q ≡ None
  no_slot slots is q none = slot_revealed (slot_at slots q) (is.filled q) (sym (lookup-placed slots is q) ∙ none)

module _ {X : Type 0} (at new_at : ℕ → Option X) (es fs : List (ℕ × ℕ)) (was : IsPlaced at es) (kept : new_at ≡ at)
    (same : (q : ℕ) → slot_at fs q ≡ slot_at es q) where
  -- slots in another order keep their objects in place
  pub IsPlaced-reordered : IsDistinct nat_eq (keys_of fs) → IsPlaced new_at fs
  IsPlaced-reordered once = record {
    once = once;
    filled = λ q k is. subst (λ (f : ℕ → Option X). IsSome (f k)) (sym kept) (was.filled q k (sym (same q) ∙ is));
    apart = λ p q k at_p at_q. was.apart p q k (sym (same p) ∙ at_p) (sym (same q) ∙ at_q);
    named = λ k some. (let before = was.named k (subst (λ (f : ℕ → Option X). IsSome (f k)) kept some) in (before.0, same before.0 ∙ before.1));
  }

  -- then each number has the object that it had
  pub objects-reordered : IsDistinct nat_eq (keys_of fs)
      → ◌≡◌ {A = ℕ → Option X} (λ q. object_at (placed new_at fs) q) (λ q. object_at (placed at es) q)
  objects-reordered once i q =
      (lookup-placed new_at fs (IsPlaced-reordered once) q ∙ (λ j. found (kept j) (same q j))
      ∙ sym (lookup-placed at es was q)) i

-- One number changes: n, whose slot is s where it has or had one. It has the slot w then, and s has the object x.
module _ {X : Type 0} (at new_at : ℕ → Option X) (es fs : List (ℕ × ℕ)) (n s : ℕ) (w : Option ℕ) (x : Option X) where
  -- the facts of a change of one number: the slots of numbers and the objects of slots
  pub record ChangesOne : Type 0 where
    pub updated : HasSlot es fs n w
    pub changed : new_at s ≡ x
    pub others : KeepsOthers at new_at s
    pub revealed : found new_at w ≡ x
    pub only : (k : ℕ) → w ≡ Some k → (k ≡ s) × IsSome x
    pub named : IsSome x → w ≡ Some s
    pub own : (k : ℕ) → slot_at es n ≡ Some k → k ≡ s
    pub apart : (q k : ℕ) → q ≢ n → slot_at es q ≡ Some k → k ≢ s

  module _ (one : ChangesOne) (was : IsPlaced at es) where
    -- the number itself has the new slot
    at_own : (q : ℕ) → q ≡ n → slot_at fs q ≡ w
    at_own q is = ap (λ m. slot_at fs m) is ∙ one.updated n ∙ ap (λ b. cond b w (slot_at es n)) (nat_eq_equiv.refl n)

    -- every other number keeps its slot
    at_other : (q : ℕ) → q ≢ n → slot_at fs q ≡ slot_at es q
    at_other q differs = other_slots es fs n w one.updated q differs

    -- the slots of other numbers keep their objects
    found_same : (o : Option ℕ) → ((k : ℕ) → o ≡ Some k → k ≢ s) → found new_at o ≡ found at o
    found_same None apart = refl
    found_same (Some k) apart = one.others k (apart k refl)

    -- the number has the object x, and every other number the object that it had
    found_after : (q : ℕ) → found new_at (slot_at fs q) ≡ (if q == n then x else found at (slot_at es q))
    found_after q = elim (eqb_tells q n) [
      | inl same ↦ ap (found new_at) (at_own q same.1) ∙ one.revealed ∙ sym (ap (λ b. if b then x else found at (slot_at es q)) same.0)
      | inr other ↦
          ap (found new_at) (at_other q other.1) ∙ found_same (slot_at es q) (λ k. one.apart q k other.1)
          ∙ sym (ap (λ b. if b then x else found at (slot_at es q)) other.0)
    ]

    -- each number's slot has an object
    filled_after : (q k : ℕ) → slot_at fs q ≡ Some k → IsSome (new_at k)
    filled_after q k is = elim (eqb_tells q n) [
      | inl same ↦ (let here = one.only k (sym (at_own q same.1) ∙ is) in subst IsSome (sym one.changed ∙ ap new_at (sym here.0)) here.1)
      | inr other ↦
          (let before = sym (at_other q other.1)
          ∙ is in subst IsSome (sym (one.others k (one.apart q k other.1 before))) (was.filled q k before))
    ]

    -- no two numbers have one slot
    apart_after : (p q k : ℕ) → slot_at fs p ≡ Some k → slot_at fs q ≡ Some k → p ≡ q
    apart_after p q k at_p at_q = elim (eqb_tells p n) [
      | inl first ↦ elim (eqb_tells q n) [
        | inl second ↦ first.1 ∙ sym second.1
        | inr second ↦ absurd (one.apart q k second.1 (sym (at_other q second.1) ∙ at_q) (one.only k (sym (at_own p first.1) ∙ at_p)).0)
      ]
      | inr first ↦ elim (eqb_tells q n) [
        | inl second ↦ absurd (one.apart p k first.1 (sym (at_other p first.1) ∙ at_p) (one.only k (sym (at_own q second.1) ∙ at_q)).0)
        | inr second ↦ was.apart p q k (sym (at_other p first.1) ∙ at_p) (sym (at_other q second.1) ∙ at_q)
      ]
    ]

    -- no object is without a number
    named_after : (k : ℕ) → IsSome (new_at k) → (q : ℕ) × (slot_at fs q ≡ Some k)
    named_after k some = elim (eqb_tells k s) [
      | inl here ↦ (n, at_own n refl ∙ one.named (subst IsSome (ap new_at here.1 ∙ one.changed) some) ∙ ap Some (sym here.1))
      | inr there ↦ (let before = was.named k (subst IsSome (one.others k there.1) some) in
          (before.0, at_other before.0 (λ same. there.1 (one.own k (ap (λ m. slot_at es m) (sym same) ∙ before.1))) ∙ before.1))
    ]

    -- the objects still have places
    pub IsPlaced-changed : IsDistinct nat_eq (keys_of fs) → IsPlaced new_at fs
    IsPlaced-changed once = record { once = once; filled = filled_after; apart = apart_after; named = named_after }

    -- the objects by number, with the object x at n
    pub objects-changed : IsDistinct nat_eq (keys_of fs)
        → ◌≡◌ {A = ℕ → Option X} (λ q. object_at (placed new_at fs) q)
        (λ q. if q == n then x else object_at (placed at es) q)
    objects-changed once i q =
        (lookup-placed new_at fs (IsPlaced-changed once) q ∙ found_after q
        ∙ ap (λ o. if q == n then x else o) (sym (lookup-placed at es was q))) i

module _ {X : Type 0} (at new_at : ℕ → Option X) (es : List (ℕ × ℕ)) (was : IsPlaced at es) (n s : ℕ) where
  -- the slot of one number is the slot of no other
  slot_apart : slot_at es n ≡ Some s → (q k : ℕ) → q ≢ n → slot_at es q ≡ Some k → k ≢ s
  slot_apart here q k differs is same = differs (was.apart q n k is (here ∙ ap Some (sym same)))

  -- the number has no slot except this one
  slot_own : slot_at es n ≡ Some s → (k : ℕ) → slot_at es n ≡ Some k → k ≡ s
  slot_own here k is = one_some k s (sym is ∙ here)

  -- the number has the slot that it has
  slot_stays : slot_at es n ≡ Some s → HasSlot es es n (Some s)
  slot_stays here q = elim (eqb_tells n q) [
    | inl same ↦ ap (λ m. slot_at es m) (sym same.1) ∙ here ∙ sym (ap (λ b. cond b (Some s) (slot_at es q)) same.0)
    | inr other ↦ sym (ap (λ b. cond b (Some s) (slot_at es q)) other.0)
  ]

  -- an object is changed in its slot
  pub written : (o : X) → slot_at es n ≡ Some s → new_at s ≡ Some o → KeepsOthers at new_at s → ChangesOne at new_at es es n s (Some s) (Some o)
  written o here changed others = record {
    updated = slot_stays here;
    changed = changed;
    others = others;
    revealed = changed;
    only = λ k is. (sym (one_some s k is), refl);
    named = λ some. refl;
    own = slot_own here;
    apart = slot_apart here;
  }

  -- an object is added in a slot that has none
  pub added : (fs : List (ℕ × ℕ)) (o : X) → slot_at es n ≡ None → HasSlot es fs n (Some s) → at s ≡ None
      → new_at s ≡ Some o → KeepsOthers at new_at s → ChangesOne at new_at es fs n s (Some s) (Some o)
  added fs o none updated vacant changed others = record {
    updated = updated;
    changed = changed;
    others = others;
    revealed = changed;
    only = λ k is. (sym (one_some s k is), refl);
    named = λ some. refl;
    own = λ k is. absurd (none_or_some k (sym none ∙ is));
    apart = λ q k differs is same. false≢true (sym (ap is_some vacant) ∙ ap (λ j. is_some (at j)) (sym same) ∙ was.filled q k is);
  }

  -- an object is taken out of its slot
  pub removed : (fs : List (ℕ × ℕ)) → slot_at es n ≡ Some s → HasSlot es fs n None → new_at s ≡ None
      → KeepsOthers at new_at s → ChangesOne at new_at es fs n s None None
  removed fs here updated changed others = record {
    updated = updated;
    changed = changed;
    others = others;
    revealed = refl;
    only = λ k is. absurd (none_or_some k is);
    named = λ some. absurd (false≢true some);
    own = slot_own here;
    apart = slot_apart here;
  }

module _ {X : Type 0} (at : ℕ → Option X) (slots : List (ℕ × ℕ)) (is : IsPlaced at slots) where
  -- a number has no slot exactly where it has no object
  pub slot_none : (q : ℕ) → (slot_at slots q ≡ None) ↔ (object_at (placed at slots) q ≡ None)
  slot_none q = (none_at at slots is q, no_slot at slots is q)

  -- where there is no object, removing one changes nothing
  pub none_without : (n : ℕ) → slot_at slots n ≡ None → (q : ℕ)
      → object_at (placed at slots) q ≡ (if q == n then None else object_at (placed at slots) q)
  none_without n none q = elim (eqb_tells q n) [
    | inl same ↦
        ap (λ m. object_at (placed at slots) m) same.1 ∙ none_at at slots is n none
        ∙ sym (ap (λ b. if b then None else object_at (placed at slots) q) same.0)
    | inr other ↦ sym (ap (λ b. if b then None else object_at (placed at slots) q) other.0)
  ]

-- a slab with one value replaced has as many values
pub slab_len-with_value : {X : Type 0} (slab : Slab X) (k : ℕ) (x : X) → ContainsKey slab k → slab_len (with_value slab k x) ≡ slab_len slab
slab_len-with_value slab k x present =
    let counted = sum_by-set (λ o. cond (is_some o) 1 0) slab.slots k (Some x) None (ContainsKey-within slab k present) in
    let one : ◌≡◌ {A = ℕ} (cond (is_some (get slab k)) 1 0) 1 = ap (λ b. cond b 1 0) present in
    omega (arith, counted, one)
