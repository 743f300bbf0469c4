-- The objects of a tree get other addresses: those to which a bijection of addresses leads.
use Rattle.std.proofs.Common.{◌≡◌, ◌≢◌, ◌⊎◌, ℕ, Bool, true, false, [], ◌∷◌, Option, None, Some, inl, inr, refl, sym, ap, ◌∙◌}
use Rattle.std.specs.Prelude.{is_some, option_map}
use Rattle.std.proofs.lemmas.Option.{none-some, same_Some}
use Rattle.histar_object.specs.State.{State, Found}
use Rattle.histar_container.specs.Tree.{Address, Naming, wanted, is_one_below, same_steps, objects_at}
use Rattle.histar_container.proofs.Addresses.{TestsEquality, same_tests_equality}
use Rattle.histar_refinement.proofs.AgreesAt.{AgreesAt}

module _ {X : Type 0} (same_step : X → X → Bool) (decides : TestsEquality same_step) (to from : Address X → Address X)
    (there : (a : Address X) → to (from a) ≡ a) (back : (a : Address X) → from (to a) ≡ a)
    (root : from [] ≡ []) (below : (x : X) (a : Address X) → (y : X) × (from (x ∷ a) ≡ y ∷ from a)) where
  -- the test of one address against a new name of another is that of its old name against the other
  pub same_through : (a b : Address X) → same_steps same_step a (to b) ≡ same_steps same_step (from a) b
  same_through a b = elim (same_tests_equality same_step decides a (to b)) [
    | inl e ↦ e.0 ∙ by_equal (ap from e.1 ∙ back b) (same_tests_equality same_step decides (from a) b)
    | inr e ↦ e.0 ∙ by_other (λ k. e.1 (sym (there a) ∙ ap to k)) (same_tests_equality same_step decides (from a) b)
  ]
    where
      by_equal : from a ≡ b
          → (((same_steps same_step (from a) b ≡ true) × (from a ≡ b))
          ⊎ ((same_steps same_step (from a) b ≡ false) × (from a ≢ b))) → true ≡ same_steps same_step (from a) b
      by_equal k (inl t) = sym t.0
      by_equal k (inr t) = absurd (t.1 k)

      by_other : from a ≢ b
          → (((same_steps same_step (from a) b ≡ true) × (from a ≡ b))
          ⊎ ((same_steps same_step (from a) b ≡ false) × (from a ≢ b)))
          → false ≡ same_steps same_step (from a) b
      by_other k (inl t) = absurd (k t.1)
      by_other k (inr t) = sym t.0

  root_stays : to [] ≡ []
  root_stays = ap to (sym root) ∙ there []

  -- what is one step below an address is one step below its new address
  step_after : (y : X) (b : Address X) → (z : X) × (to (y ∷ b) ≡ z ∷ to b)
  step_after y b = by (to (y ∷ b)) refl
    where
      by : (w : Address X) → to (y ∷ b) ≡ w → (z : X) × (to (y ∷ b) ≡ z ∷ to b)
      by [] e = let wrong : [] ≡ y ∷ b = sym root ∙ ap from (sym e) ∙ back (y ∷ b) in absurd cc
      by (z ∷ v) e =
          let one = below z v in
          let same_list : one.0 ∷ from v ≡ y ∷ b = sym one.1 ∙ ap from (sym e) ∙ back (y ∷ b) in
          let tails : from v ≡ b = cc in
          (z, e ∙ ap (λ (t : Address X). z ∷ t) (sym (there v) ∙ ap to tails))

  child_through : (a : Address X) (o : Option (Address X)) → is_one_below same_step (from a) o ≡ is_one_below same_step a (option_map to o)
  child_through a None = refl
  child_through a (Some []) = sym (ap (λ (w : Address X). is_one_below same_step a (Some w)) root_stays)
  child_through a (Some (y ∷ b)) = sym (ap (λ (w : Address X). is_one_below same_step a (Some w)) (step_after y b).1 ∙ same_through a b)

  -- each number has the new address of its address
  abbrev pub renamed_naming : Naming X → Naming X
  renamed_naming naming = record { address = λ q. option_map to (naming.address q); number = λ a. naming.number (from a) }

  module _ (s : State) (naming : Naming X) (asked : Address X → Found) (agrees : AgreesAt same_step s naming asked) where
    -- the address of a number comes from the old one
    came_from : (o : Option (Address X)) (a : Address X) → option_map to o ≡ Some a → o ≡ Some (from a)
    came_from None a e = absurd (none-some a e)
    came_from (Some b) a e = ap (λ (w : Address X). Some w) (sym (back b) ∙ ap from (same_Some (to b) a e))

    as_expected_then : (q : ℕ) → s.objects q ≡ wanted (objects_at s.objects (renamed_naming naming)) (option_map to (naming.address q))
    as_expected_then q = agrees.tree.as_expected q ∙ by (naming.address q)
      where
        by : (o : Option (Address X))
            → wanted (objects_at s.objects naming) o
            ≡ wanted (objects_at s.objects (renamed_naming naming)) (option_map to o)
        by None = refl
        by (Some b) = ap (objects_at s.objects naming) (sym (back b))

    held_then : (x : X) (a : Address X) → is_some (naming.number (from (x ∷ a))) ≡ true → is_some (naming.number (from a)) ≡ true
    held_then x a e = let one = below x a in agrees.tree.held one.0 (from a) (ap (λ (w : Address X). is_some (naming.number w)) (sym one.1) ∙ e)

    -- The same objects are at their new addresses.
    pub agrees_renamed : AgreesAt same_step s (renamed_naming naming) (λ a. asked (from a))
    agrees_renamed = record {
      tree = record {
        as_expected = as_expected_then;
        numbered = λ q a e. agrees.tree.numbered q (from a) (came_from (naming.address q) a e);
        addressed = λ a q e. ap (option_map to) (agrees.tree.addressed (from a) q e) ∙ ap (λ (w : Address X). Some w) (there a);
        held = held_then;
        links = λ q c a e. agrees.tree.links q c (from a) (came_from (naming.address q) a e) ∙ child_through a (naming.address c);
        unused = λ q e. ap (option_map to) (agrees.tree.unused q e);
      };
      objects = λ a. agrees.objects (from a);
      named = λ a. agrees.named (from a);
    }
