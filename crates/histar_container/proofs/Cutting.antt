-- The third move over objects that match a naming: a tree is cut off.
use Rattle.std.proofs.Common.{◌≡◌, ◌≢◌, ℕ, ◌&&◌, not, nat_eq, Bool, true, false, [], ◌∷◌, Option, None, Some, inl, inr, refl, sym, ap, ◌∙◌, subst}
use Rattle.std.proofs.Common.{if◌then◌else◌}
use Rattle.std.specs.Prelude.{is_some}
use Rattle.std.specs.FinSet as set
use mathlib.Core.Bool.{true≢false}
use Rattle.std.proofs.lemmas.Bool.Decides.{eqb_tells}
use Rattle.std.proofs.lemmas.Bool.{false_from_ne_true}
use Rattle.histar_object.specs.declared.objects.Object.{Object}
use Rattle.histar_object.specs.Objects.{Objects, links_in}
use Rattle.histar_container.specs.Tree.{Address, Naming, wanted, same_steps, under, is_one_below, is_under, without_below, set_at, cut, MatchesNaming}
use Rattle.histar_container.specs.Tree.{IsCut}
use Rattle.histar_container.proofs.Links.{unlinked_links}
use Rattle.histar_container.proofs.Addresses.{TestsEquality, inner, same_tests_equality, same_itself, same_other, under_itself, under_child}
use Rattle.histar_container.proofs.Addresses.{under_other, above}
use Rattle.histar_container.proofs.Reaching.{same_number, not_reached, is_reached}

-- a value that is left of one that may be taken away is that value
pub some_left : {A : Type 0} (b : Bool) (y : Option A) (z : A) → (if b then None else y) ≡ Some z → (b ≡ false) × (y ≡ Some z)
some_left true y z e = cc
some_left false y z e = (refl, e)

-- o is one step below d, and is cut off from it
module _ {X : Type 0} (same_step : X → X → Bool) (decides : TestsEquality same_step) {L : Type 0} (objects : Objects L)
    (next : ℕ) (expected : Address X → Option (Object L)) (naming : Naming X)
    (matched : MatchesNaming same_step objects next expected naming)
    (new : Objects L) (d o : ℕ) (is_cut : IsCut objects d o new) (x : X) (a : Address X)
    (at_o : naming.address o ≡ Some (x ∷ a)) (at_d : naming.address d ≡ Some a) where
  left : Naming X
  left = without_below same_step naming (x ∷ a)

  left_expected : Address X → Option (Object L)
  left_expected = cut same_step (set_at same_step expected a (new d)) (x ∷ a)

  one_number : (p q : ℕ) (b : Address X) → naming.address p ≡ Some b → naming.address q ≡ Some b → p ≡ q
  one_number = same_number same_step decides objects next expected naming matched

  address_stays : (q : ℕ) → is_under same_step (x ∷ a) (naming.address q) ≡ false → left.address q ≡ naming.address q
  unfolding left
  address_stays q b = ap (λ t. if t then None else naming.address q) b

  address_gone : (q : ℕ) → is_under same_step (x ∷ a) (naming.address q) ≡ true → left.address q ≡ None
  unfolding left
  address_gone q b = ap (λ t. if t then None else naming.address q) b

  kept_object : (q : ℕ) (y : Option (Address X)) → naming.address q ≡ y → is_under same_step (x ∷ a) y ≡ false → q ≢ d
      → wanted left_expected y ≡ wanted expected y
  unfolding left_expected
  kept_object q None i b other = refl
  kept_object q (Some c) i b other = ap (λ t. if t then None else set_at same_step expected a (new d) c) b
      ∙ ap (λ t. if t then new d else expected c) (same_other same_step decides a c (λ k. other (one_number q d a (i ∙ ap Some (sym k)) at_d)))

  at_holder : wanted left_expected (Some a) ≡ new d
  unfolding left_expected
  at_holder =
      ap (λ t. if t then None else set_at same_step expected a (new d) a) (above same_step decides a x)
      ∙ ap (λ t. if t then new d else expected a) (same_itself same_step decides a)

  left_as_expected : (q : ℕ) → new q ≡ wanted left_expected (left.address q)
  left_as_expected q = by (is_under same_step (x ∷ a) (naming.address q)) refl
    where
      by : (b : Bool) → is_under same_step (x ∷ a) (naming.address q) ≡ b → new q ≡ wanted left_expected (left.address q)
      by true b =
          is_cut.gone q (is_reached same_step decides objects next expected naming matched o (x ∷ a) at_o q b)
          ∙ sym (ap (wanted left_expected) (address_gone q b))
      by false b = elim (eqb_tells q d) [
        | inl i ↦ ap new i.1 ∙ sym at_holder ∙ ap (wanted left_expected) (sym (ap naming.address i.1 ∙ at_d) ∙ sym (address_stays q b))
        | inr i ↦ is_cut.stays q (not_reached same_step decides objects next expected naming matched o (x ∷ a) at_o q b) i.1 ∙ matched.as_expected q
            ∙ sym (kept_object q (naming.address q) refl b i.1) ∙ ap (wanted left_expected) (sym (address_stays q b))
      ]

  left_numbered : (q : ℕ) (b : Address X) → left.address q ≡ Some b → left.number b ≡ Some q
  unfolding left
  left_numbered q b i = let k = some_left _ _ b i in
      let u : under same_step (x ∷ a) b ≡ false =
      sym (ap (is_under same_step (x ∷ a)) k.1) ∙ k.0 in ap (λ t. if t then None else naming.number b) u
      ∙ matched.numbered q b k.1

  left_addressed : (b : Address X) (q : ℕ) → left.number b ≡ Some q → left.address q ≡ Some b
  unfolding left
  left_addressed b q i = let k = some_left _ _ q i in
      let e = matched.addressed b q k.1 in address_stays q (ap (is_under same_step (x ∷ a)) e ∙ k.0) ∙ e

  left_held : (y : X) (b : Address X) → is_some (left.number (y ∷ b)) ≡ true → is_some (left.number b) ≡ true
  unfolding left
  left_held y b t = by (under same_step (x ∷ a) (y ∷ b)) refl t
    where
      parent : under same_step (x ∷ a) (y ∷ b) ≡ false → under same_step (x ∷ a) b ≡ false
      parent u = false_from_ne_true _ (λ v. true≢false (sym (under_child same_step decides (x ∷ a) b y v) ∙ u))

      by : (c : Bool) → under same_step (x ∷ a) (y ∷ b) ≡ c
          → is_some (if under same_step (x ∷ a) (y ∷ b) then None else naming.number (y ∷ b)) ≡ true
          → is_some (if under same_step (x ∷ a) b then None else naming.number b) ≡ true
      by true u i = let k : false ≡ true = sym (ap (λ c. is_some (if c then None else naming.number (y ∷ b))) u) ∙ i in absurd (true≢false (sym k))
      by false u i =
          ap (λ c. is_some (if c then None else naming.number b)) (parent u)
          ∙ matched.held y b (sym (ap (λ c. is_some (if c then None else naming.number (y ∷ b))) u) ∙ i)

  -- an address other than d's, and not at or below o's, keeps its children
  child_left : (c : ℕ) (b : Address X) → under same_step (x ∷ a) b ≡ false → b ≢ a
      → is_one_below same_step b (left.address c) ≡ is_one_below same_step b (naming.address c)
  unfolding left
  child_left c b u other = by (naming.address c)
    where
      apart : (e : Address X) (z : X) → under same_step (x ∷ a) e ≡ false → a ≢ e → under same_step (x ∷ a) (z ∷ e) ≡ false
      apart e z v n = under_other same_step decides (x ∷ a) e z (λ k. let j : a ≡ e = cc in n j) v

      by : (y : Option (Address X)) → is_one_below same_step b (if is_under same_step (x ∷ a) y then None else y) ≡ is_one_below same_step b y
      by None = refl
      by (Some []) =
          elim (same_steps same_step (x ∷ a) []) as
          (λ t. is_one_below same_step b (if t then None else Some []) ≡ false) [ true ↦ refl | false ↦ refl ]
      by (Some (z ∷ e)) = elim (same_tests_equality same_step decides b e) [
        | inl k ↦
            ap (λ t. is_one_below same_step b (if t then None else Some (z ∷ e)))
            (apart e z (subst (λ y. under same_step (x ∷ a) y ≡ false) k.1 u) (λ j. other (k.1 ∙ sym j)))
        | inr k ↦ elim (under same_step (x ∷ a) (z ∷ e)) as
            (λ t. is_one_below same_step b (if t then None else Some (z ∷ e)) ≡ same_steps same_step b e)
            [ true ↦ sym k.0 | false ↦ refl ]
      ]

  -- d's address keeps all children except o's
  child_here : (c : ℕ) → (not (nat_eq c o) && is_one_below same_step a (naming.address c)) ≡ is_one_below same_step a (left.address c)
  unfolding left
  child_here c = elim (eqb_tells c o) [
    | inl e ↦ ap (λ t. not t && is_one_below same_step a (naming.address c)) e.0
        ∙ sym (ap (is_one_below same_step a) (address_gone c (ap (λ k. is_under same_step (x ∷ a) (naming.address k)) e.1
        ∙ ap (is_under same_step (x ∷ a)) at_o ∙ under_itself same_step decides (x ∷ a))))
    | inr e ↦ ap (λ t. not t && is_one_below same_step a (naming.address c)) e.0 ∙ by e.1 (naming.address c) refl
  ]
    where
      other_step : (z : X) (e : Address X) → a ≡ e → z ≢ x → under same_step (x ∷ a) (z ∷ e) ≡ false
      other_step z e k n =
          under_other same_step decides (x ∷ a) e z (λ i. let j : z ≡ x = cc in n j)
          (ap (under same_step (x ∷ a)) (sym k) ∙ above same_step decides a x)

      by : c ≢ o → (y : Option (Address X)) → naming.address c ≡ y
          → is_one_below same_step a y ≡ is_one_below same_step a (if is_under same_step (x ∷ a) y then None else y)
      by other None i = refl
      by other (Some []) i =
          elim (same_steps same_step (x ∷ a) []) as
          (λ t. false ≡ is_one_below same_step a (if t then None else Some [])) [ true ↦ refl | false ↦ refl ]
      by other (Some (z ∷ e)) i = elim (same_tests_equality same_step decides a e) [
        | inl k ↦
            sym (ap (λ t. is_one_below same_step a (if t then None else Some (z ∷ e)))
            (other_step z e k.1 (λ j. other (one_number c o (x ∷ a) (i ∙ (λ n. Some (j n ∷ sym k.1 n))) at_o))))
        | inr k ↦ elim (under same_step (x ∷ a) (z ∷ e)) as
            (λ t. same_steps same_step a e ≡ is_one_below same_step a (if t then None else Some (z ∷ e)))
            [ true ↦ k.0 | false ↦ refl ]
      ]

  -- a number that keeps its address is not below the one that was cut off
  kept : (q : ℕ) (b : Address X) → left.address q ≡ Some b → (is_under same_step (x ∷ a) (naming.address q) ≡ false) × (naming.address q ≡ Some b)
  unfolding left
  kept q b i = some_left _ _ b i

  left_links : (q c : ℕ) (b : Address X) → left.address q ≡ Some b → set.contains (links_in (new q)) c ≡ is_one_below same_step b (left.address c)
  left_links q c b i =
      let k = kept q b i in
      elim (eqb_tells q d) [
        | inl e ↦
            let is : a ≡ b = inner a b (sym at_d ∙ ap naming.address (sym e.1) ∙ k.1) in
            ap (λ p. set.contains (links_in (new p)) c) e.1 ∙ ap (λ y. set.contains (links_in y) c) is_cut.unlinked ∙ unlinked_links (objects d) o c
            ∙ ap (λ t. not (nat_eq c o) && t) (matched.links d c a at_d) ∙ child_here c
            ∙ ap (λ (y : Address X). is_one_below same_step y (left.address c)) is
        | inr e ↦
            ap (λ y. set.contains (links_in y) c) (is_cut.stays q
            (not_reached same_step decides objects next expected naming matched o (x ∷ a) at_o q k.0) e.1)
            ∙ matched.links q c b k.1
            ∙ sym (child_left c b (sym (ap (is_under same_step (x ∷ a)) k.1) ∙ k.0) (λ j. e.1 (one_number q d b k.1 (at_d ∙ ap Some (sym j)))))
      ]

  pub matched_cut : MatchesNaming same_step new next (cut same_step (set_at same_step expected a (new d)) (x ∷ a))
      (without_below same_step naming (x ∷ a))
  unfolding left left_expected
  matched_cut = record {
    as_expected = left_as_expected;
    numbered = left_numbered;
    addressed = left_addressed;
    held = left_held;
    links = left_links;
    unused = λ q l. ap (λ y. if is_under same_step (x ∷ a) y then None else y) (matched.unused q l);
  }
