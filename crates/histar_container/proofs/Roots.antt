-- A root container alone is a tree, and so are the objects of the empty kernel.
use Rattle.std.proofs.Common.{◌≡◌, ◌≢◌, ℕ, ◌<◌, nat_eq, true, false, [], ◌∷◌, Option, None, Some, inl, inr, arith, refl, sym, ap, ◌∙◌, subst, lit<}
use Rattle.std.proofs.Common.{if◌then◌else◌}
use Rattle.std.specs.Prelude.{is_some}
use Rattle.std.specs.FinSet as set
use Rattle.std.specs.Ordering.{nat_cmp}
use mathlib.Core.Bool.{false≢true}
use Rattle.std.proofs.lemmas.Bool.{eq-eqb}
use Rattle.std.proofs.lemmas.Bool.Decides.{eqb_tells}
use Rattle.histar_level.specs.Levels.{Levels}
use Rattle.histar_object.specs.declared.objects.Kind.TheVariants.{Container}
use Rattle.histar_object.specs.declared.objects.Object.{Object}
use Rattle.histar_object.specs.Objects.{Objects, put, no_objects, with_new, links_in, kind_links, is_present}
use Rattle.histar_object.specs.State.{root_object, boot_thread, empty_state}
use Rattle.histar_container.specs.Tree.{Address, Naming, wanted, same_steps, is_one_below, IsTree}
use Rattle.histar_container.proofs.Addresses.{inner, same_tests_equality}
use Rattle.histar_container.proofs.TableMoves.{put_here, put_other}
use Rattle.histar_container.proofs.Trees.{matched_itself, tree_new}

module _ {L : Type 0} (root next : ℕ) (o : Object L) (below : root < next) (leaf : (c : ℕ) → set.contains (kind_links o.kind) c ≡ false) where
  -- the root has the address of no steps, and no other number has one
  root_naming : Naming ℕ
  root_naming = record { address = λ q. if nat_eq q root then Some [] else None; number = λ a. if same_steps nat_eq a [] then Some root else None }

  root_expected : Address ℕ → Option (Object L)
  root_expected a = if same_steps nat_eq a [] then Some o else None

  at_root : root_naming.address root ≡ Some []
  unfolding root_naming
  at_root = ap (λ b. if b then Some [] else None) (eq-eqb root root refl)

  elsewhere : (q : ℕ) → q ≢ root → root_naming.address q ≡ None
  unfolding root_naming
  elsewhere q other = elim (eqb_tells q root) [ inl e ↦ absurd (other e.1) | inr e ↦ ap (λ b. if b then Some [] else None) e.0 ]

  -- a number that has an address is the root's
  is_root : (q : ℕ) (a : Address ℕ) → root_naming.address q ≡ Some a → (q ≡ root) × ([] ≡ a)
  is_root q a i = elim (eqb_tells q root) [
    | inl e ↦ (e.1, inner [] a (sym (ap root_naming.address e.1 ∙ at_root) ∙ i))
    | inr e ↦ let k : None ≡ Some a = sym (elsewhere q e.1) ∙ i in cc
  ]

  root_no_child : (b : Address ℕ) (c : ℕ) → is_one_below nat_eq b (root_naming.address c) ≡ false
  root_no_child b c = elim (eqb_tells c root) [
    | inl e ↦ ap (is_one_below nat_eq b) (ap root_naming.address e.1 ∙ at_root)
    | inr e ↦ ap (is_one_below nat_eq b) (elsewhere c e.1)
  ]

  root_as_expected : (q : ℕ) → put no_objects root o q ≡ wanted root_expected (root_naming.address q)
  unfolding root_expected
  root_as_expected q = elim (eqb_tells q root) [
    | inl e ↦ ap (put no_objects root o) e.1 ∙ put_here no_objects root o ∙ sym (ap (wanted root_expected) (ap root_naming.address e.1 ∙ at_root))
    | inr e ↦ put_other no_objects root o q e.1 ∙ sym (ap (wanted root_expected) (elsewhere q e.1))
  ]

  root_addressed : (a : Address ℕ) (q : ℕ) → root_naming.number a ≡ Some q → root_naming.address q ≡ Some a
  unfolding root_naming
  root_addressed a q i = elim (same_tests_equality nat_eq eqb_tells a []) [
    | inl e ↦
        let k : root ≡ q = inner root q (sym (ap (λ b. if b then Some root else None) e.0) ∙ i) in
        ap root_naming.address (sym k) ∙ at_root ∙ ap Some (sym e.1)
    | inr e ↦ let k : None ≡ Some q = sym (ap (λ b. if b then Some root else None) e.0) ∙ i in cc
  ]

  root_numbered : (q : ℕ) (a : Address ℕ) → root_naming.address q ≡ Some a → root_naming.number a ≡ Some q
  unfolding root_naming
  root_numbered q a i = let k = is_root q a i in ap root_naming.number (sym k.1) ∙ ap Some (sym k.0)

  root_held : (x : ℕ) (a : Address ℕ) → is_some (root_naming.number (x ∷ a)) ≡ true → is_some (root_naming.number a) ≡ true
  unfolding root_naming
  root_held x a k = absurd (false≢true k)

  -- a root that links nothing is a tree, under any next number above it
  pub tree_root : IsTree (put no_objects root o) root next
  tree_root = record {
    naming = root_naming;
    matched = matched_itself nat_eq (put no_objects root o) next root_expected root_naming (record {
      as_expected = root_as_expected;
      numbered = root_numbered;
      addressed = root_addressed;
      held = root_held;
      links =
          λ q c a i. let k = is_root q a i in ap (λ p. set.contains (links_in (put no_objects root o p)) c) k.0
          ∙ ap (λ y. set.contains (links_in y) c) (put_here no_objects root o) ∙ leaf c ∙ sym (root_no_child a c);
      unused = λ q l. elsewhere q (λ e. omega arith);
    });
    rooted = at_root;
    own_step = λ q x a i. let k = (is_root q (x ∷ a) i).1 in cc;
    filled = λ q a i. ap is_present (ap (put no_objects root o) (is_root q a i).0 ∙ put_here no_objects root o);
  }

-- a table that was given its root alone has a tree
pub tree_first : {L : Type 0} (before after : Objects L) (root : ℕ) (o : Object L) (next : ℕ) → root < next
    → ((c : ℕ) → set.contains (kind_links o.kind) c ≡ false) → before ≡ no_objects → after ≡ put before root o
    → IsTree after root next
tree_first before after root o next below leaf none is =
    subst (λ (x : Objects _). IsTree x root next) (sym (is ∙ ap (λ (x : Objects _). put x root o) none))
    (tree_root root next o below leaf)

-- the root container of the empty kernel before it links the boot thread
bare_root : Object Levels
bare_root = record { label = root_object.label; kind = Container set.empty }

-- the objects of the empty kernel are a tree
pub tree_empty_state : IsTree empty_state.objects 1 3
unfolding bare_root
tree_empty_state =
    subst (λ (x : Objects Levels). IsTree x 1 3) (λ i q. linked q i)
    (tree_new (put no_objects 1 bare_root) 1 2 (tree_root 1 2 bare_root (lit< tt) (λ c. set.contains-empty nat_cmp c))
    1 boot_thread refl (λ c. set.contains-empty nat_cmp c))
  where
    linked : (q : ℕ) → with_new (put no_objects 1 bare_root) 1 2 boot_thread q ≡ empty_state.objects q
    linked q = elim (eqb_tells q 1) [
      | inl e ↦ ap (with_new (put no_objects 1 bare_root) 1 2 boot_thread) e.1 ∙ sym (ap empty_state.objects e.1)
      | inr e ↦ elim (eqb_tells q 2) [
        | inl k ↦ ap (with_new (put no_objects 1 bare_root) 1 2 boot_thread) k.1 ∙ sym (ap empty_state.objects k.1)
        | inr k ↦ rw (e.0, k.0) refl
      ]
    ]
