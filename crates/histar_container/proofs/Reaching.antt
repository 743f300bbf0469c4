-- The numbers that are reached from an object by links are those at its address or below it.
use Rattle.std.proofs.Common.{◌≡◌, ℕ, ◌||◌, Bool, true, false, [], ◌∷◌, Option, None, Some, ◌⊎◌, inl, inr, refl, sym, ap, ◌∙◌, subst}
use Rattle.std.specs.Prelude.{is_some}
use Rattle.std.specs.FinSet as set
use mathlib.Core.Bool.{true≢false}
use Rattle.histar_object.specs.declared.objects.Object.{Object}
use Rattle.histar_object.specs.Objects.{Objects, links_in}
use Rattle.histar_container.specs.Tree.{Address, Naming, wanted, same_steps, under, is_one_below, is_under, MatchesNaming, Reached, here, there}
use Rattle.histar_container.proofs.Links.{none_linked}
use Rattle.histar_container.proofs.Addresses.{TestsEquality, inner, same_itself, same_is, under_itself, under_child, above}

-- a link from p to c leads from an address to one a step below it
pub record LinkAt {X : Type 0} (naming : Naming X) (p c : ℕ) : Type 0 where
  pub above : Address X
  pub step : X
  pub at_holder : naming.address p ≡ Some above
  pub at_linked : naming.address c ≡ Some (step ∷ above)

module _ {X : Type 0} (same_step : X → X → Bool) (decides : TestsEquality same_step) {L : Type 0} (objects : Objects L)
    (next : ℕ) (expected : Address X → Option (Object L)) (naming : Naming X)
    (matched : MatchesNaming same_step objects next expected naming) where
  -- two numbers of one address are the same
  pub same_number : (p q : ℕ) (a : Address X) → naming.address p ≡ Some a → naming.address q ≡ Some a → p ≡ q
  same_number p q a i j = inner p q (sym (matched.numbered p a i) ∙ matched.numbered q a j)

  -- a number has the address that has the number
  number_of : (a : Address X) → is_some (naming.number a) ≡ true → (q : ℕ) × (naming.address q ≡ Some a)
  number_of a k = by (naming.number a) refl k
    where
      by : (x : Option ℕ) → naming.number a ≡ x → is_some x ≡ true → (q : ℕ) × (naming.address q ≡ Some a)
      by None i k = cc
      by (Some q) i k = (q, matched.addressed a q i)

  -- a number that links another has an address, and the other has one a step below
  linked_child : (p c : ℕ) → set.contains (links_in (objects p)) c ≡ true
      → (a : Address X) × (naming.address p ≡ Some a) × (is_one_below same_step a (naming.address c) ≡ true)
  linked_child p c k = by (naming.address p) refl
    where
      by : (x : Option (Address X)) → naming.address p ≡ x
          → (a : Address X) × (naming.address p ≡ Some a) × (is_one_below same_step a (naming.address c) ≡ true)
      by None i =
          let gone : objects p ≡ None = matched.as_expected p ∙ ap (wanted expected) i in
          absurd (true≢false (sym k ∙ ap (λ o. set.contains (links_in o) c) gone ∙ sym (none_linked c)))
      by (Some a) i = (a, i, sym (matched.links p c a i) ∙ k)

  -- a child's address is one step below
  child_is : (a : Address X) (c : ℕ) → is_one_below same_step a (naming.address c) ≡ true → (x : X) × (naming.address c ≡ Some (x ∷ a))
  child_is a c k = by (naming.address c) refl k
    where
      by : (y : Option (Address X)) → naming.address c ≡ y → is_one_below same_step a y ≡ true → (x : X) × (naming.address c ≡ Some (x ∷ a))
      by None i k = cc
      by (Some []) i k = cc
      by (Some (x ∷ b)) i k = (x, i ∙ ap (λ (d : Address X). Some (x ∷ d)) (sym (same_is same_step decides a b k)))

  -- a number that is reached from the object at a has an address at a or below
  pub reached_under : (o : ℕ) (a : Address X) → naming.address o ≡ Some a → (q : ℕ) → Reached objects o q
      → (b : Address X) × (naming.address q ≡ Some b) × (under same_step a b ≡ true)
  reached_under o a e q here = (a, e, under_itself same_step decides a)
  reached_under o a e q (there p c r k) =
      let up = reached_under o a e p r in
      let child = child_is up.0 q (sym (matched.links p q up.0 up.1) ∙ k) in
      (child.0 ∷ up.0, child.1, under_child same_step decides a up.0 child.0 up.2)

  -- and a number with an address there is reached
  pub under_reached : (o : ℕ) (a : Address X) → naming.address o ≡ Some a → (b : Address X) (q : ℕ)
      → naming.address q ≡ Some b → under same_step a b ≡ true → Reached objects o q
  under_reached o a e [] q i u = subst (Reached objects o) (same_number o q [] (e ∙ ap Some (same_is same_step decides a [] u)) i) here
  under_reached o a e (x ∷ b) q i u =
      let up = number_of b (matched.held x b (ap is_some (matched.numbered q (x ∷ b) i))) in
      by up.0 up.1 (λ v. under_reached o a e b up.0 up.1 v) (same_steps same_step a (x ∷ b)) refl
    where
      by : (p : ℕ) → naming.address p ≡ Some b → (under same_step a b ≡ true → Reached objects o p) → (t : Bool)
          → same_steps same_step a (x ∷ b) ≡ t → Reached objects o q
      by p j up true k = subst (Reached objects o) (same_number o q (x ∷ b) (e ∙ ap Some (same_is same_step decides a (x ∷ b) k)) i) here
      by p j up false k =
          there p q (up (sym (ap (λ t. t || under same_step a b) k) ∙ u))
          (matched.links p q b j ∙ ap (is_one_below same_step b) i ∙ same_itself same_step decides b)

  module _ (o : ℕ) (a : Address X) (at_o : naming.address o ≡ Some a) where
    -- a number without an address at a or below is not reached
    pub not_reached : (q : ℕ) → is_under same_step a (naming.address q) ≡ false → Reached objects o q → ⊥
    not_reached q b r = let k = reached_under o a at_o q r in true≢false (sym (ap (is_under same_step a) k.1 ∙ k.2) ∙ b)

    -- a number with one is reached
    pub is_reached : (q : ℕ) → is_under same_step a (naming.address q) ≡ true → Reached objects o q
    is_reached q = by (naming.address q) refl
      where
        by : (y : Option (Address X)) → naming.address q ≡ y → is_under same_step a y ≡ true → Reached objects o q
        by None i u = cc
        by (Some b) i u = under_reached o a at_o b q i u

    -- so each number is reached or is not
    pub reached_or_not : (q : ℕ) → Reached objects o q ⊎ (Reached objects o q → ⊥)
    reached_or_not q = by (is_under same_step a (naming.address q)) refl
      where
        by : (b : Bool) → is_under same_step a (naming.address q) ≡ b → Reached objects o q ⊎ (Reached objects o q → ⊥)
        by true e = inl (is_reached q e)
        by false e = inr (not_reached q e)

  -- a link leads one step down
  pub link_at : (p c : ℕ) → set.contains (links_in (objects p)) c ≡ true → LinkAt naming p c
  link_at p c k =
      let up = linked_child p c k in
      let down = child_is up.0 c up.2 in
      record { above = up.0; step = down.0; at_holder = up.1; at_linked = down.1 }

  -- an object links none from which it was reached
  pub no_way_back : (o q : ℕ) → Reached objects o q → set.contains (links_in (objects q)) o ≡ true → ⊥
  no_way_back o q r k =
      let l = link_at q o k in
      not_reached o (l.step ∷ l.above) l.at_linked q
      (ap (is_under same_step (l.step ∷ l.above)) l.at_holder ∙ above same_step decides l.above l.step) r

  -- an object is linked by one other at most
  pub one_holder : (p q c : ℕ) → set.contains (links_in (objects p)) c ≡ true → set.contains (links_in (objects q)) c ≡ true → p ≡ q
  one_holder p q c i j =
      let l = link_at p c i in
      let m = link_at q c j in
      let e : l.step ∷ l.above ≡ m.step ∷ m.above = inner (l.step ∷ l.above) (m.step ∷ m.above) (sym l.at_linked ∙ m.at_linked) in
      let same_above : l.above ≡ m.above = cc in
      same_number p q l.above l.at_holder (m.at_holder ∙ ap Some (sym same_above))
