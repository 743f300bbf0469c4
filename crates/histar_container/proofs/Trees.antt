-- A table whose objects are a tree stays one: an object is put or changed, a new one is linked, a tree is cut off.
use Rattle.std.proofs.Common.{◌≡◌, ◌≢◌, ℕ, ◌+◌, nat_eq, Bool, true, false, List, [], ◌∷◌, Option, None, Some, arith, ◌⊎◌, inl, inr, refl, sym, ap}
use Rattle.std.proofs.Common.{◌∙◌, subst, if◌then◌else◌}
use Rattle.std.specs.Prelude.{option_map, option_and_then}
use Rattle.std.specs.FinSet as set
use mathlib.Core.Bool.{true≢false, false≢true}
use Rattle.std.proofs.lemmas.Bool.Decides.{eqb_tells}
use Rattle.histar_object.specs.declared.objects.Kind.{Kind}
use Rattle.histar_object.specs.declared.objects.Kind.TheVariants.{Segment, Container, Thread, Gate}
use Rattle.histar_object.specs.declared.objects.Object.{Object}
use Rattle.histar_object.specs.Objects.{Objects, put, changed_at, with_new, linking, unlinking, kind_holding, holding, links_in, kind_links}
use Rattle.histar_object.specs.Objects.{is_present, is_container}
use Rattle.histar_object.proofs.Changes.{at_each, put_changed}
use Rattle.histar_container.specs.Tree.{Address, Naming, wanted, is_under, with_number, without_below, objects_at, MatchesNaming, IsTree, AreTree}
use Rattle.histar_container.specs.Tree.{Reached, IsCut}
use Rattle.histar_container.proofs.Links.{none_linked}
use Rattle.histar_container.proofs.Addresses.{inner}
use Rattle.histar_container.proofs.Reaching.{LinkAt, link_at, reached_under, not_reached, reached_or_not, no_way_back, one_holder}
use Rattle.histar_container.proofs.Moves.{next_unused}
use Rattle.histar_container.proofs.Cutting.{some_left}
use Rattle.histar_container.proofs.TableMoves.{put_here, put_other, new_there, new_holder, new_other, matched_put, matched_new, matched_without}

module _ {L X : Type 0} (same_step : X → X → Bool) where
  -- objects that match a naming match it with themselves as the expected ones
  pub matched_itself : (objects : Objects L) (next : ℕ) (expected : Address X → Option (Object L)) (naming : Naming X)
      → MatchesNaming same_step objects next expected naming
      → MatchesNaming same_step objects next (objects_at objects naming) naming
  matched_itself objects next expected naming matched = record {
    as_expected = λ q. by q (naming.address q) refl;
    numbered = matched.numbered;
    addressed = matched.addressed;
    held = matched.held;
    links = matched.links;
    unused = matched.unused;
  }
    where
      by : (q : ℕ) (y : Option (Address X)) → naming.address q ≡ y → objects q ≡ wanted (objects_at objects naming) y
      by q None i = matched.as_expected q ∙ ap (wanted expected) i
      by q (Some a) i = sym (ap (option_and_then objects) (matched.numbered q a i))

module _ {L : Type 0} where
  there_not_none : (o : Option (Object L)) → is_present o ≡ true → o ≡ None → ⊥
  there_not_none o t e = false≢true (sym (ap is_present e) ∙ t)

  -- an object that links a number is there
  pub linker_there : (o : Option (Object L)) (c : ℕ) → set.contains (links_in o) c ≡ true → is_present o ≡ true
  linker_there None c k = absurd (true≢false (sym k ∙ sym (none_linked c)))
  linker_there (Some o) c k = refl

  -- a container is there
  container_there : (o : Option (Object L)) → is_container o ≡ true → is_present o ≡ true
  container_there None k = k
  container_there (Some o) k = refl

  changed_there : (f : Object L → Object L) (o : Option (Object L)) → is_present o ≡ true → is_present (option_map f o) ≡ true
  changed_there f None t = t
  changed_there f (Some o) t = refl

  -- other bytes change no links
  pub kind_held_links : (bytes : List ℕ) (k : Kind L) → kind_links (kind_holding bytes k) ≡ kind_links k
  kind_held_links bytes (Segment old) = refl
  kind_held_links bytes (Container links) = refl
  kind_held_links bytes (Thread clearance) = refl
  kind_held_links bytes (Gate clearance entry) = refl

  module _ (objects : Objects L) (root next : ℕ) (tree : IsTree objects root next) where
    -- a number of an object has an address
    pub address_of : (q : ℕ) → is_present (objects q) ≡ true → (a : Address ℕ) × (tree.naming.address q ≡ Some a)
    address_of q t = by (tree.naming.address q) refl
      where
        by : (y : Option (Address ℕ)) → tree.naming.address q ≡ y → (a : Address ℕ) × (tree.naming.address q ≡ Some a)
        by None i = absurd (there_not_none (objects q) t (tree.matched.as_expected q ∙ ap (wanted (objects_at objects tree.naming)) i))
        by (Some a) i = (a, i)

    -- a link leads one step down
    link_addresses : (p c : ℕ) → set.contains (links_in (objects p)) c ≡ true → LinkAt tree.naming p c
    link_addresses = link_at nat_eq eqb_tells objects next (objects_at objects tree.naming) tree.naming tree.matched

    -- a number without an address at a or below is not reached from there
    not_below : (o : ℕ) (a : Address ℕ) → tree.naming.address o ≡ Some a → (q : ℕ)
        → is_under nat_eq a (tree.naming.address q) ≡ false → Reached objects o q → ⊥
    not_below = not_reached nat_eq eqb_tells objects next (objects_at objects tree.naming) tree.naming tree.matched

    -- a number that has an address is not the next one
    not_next : (q : ℕ) (a : Address ℕ) → tree.naming.address q ≡ Some a → q ≢ next
    not_next = next_unused nat_eq objects next (objects_at objects tree.naming) tree.naming tree.matched

    -- no object is at the next number
    pub none_next : objects next ≡ None
    none_next = tree.matched.as_expected next ∙ ap (wanted (objects_at objects tree.naming)) (tree.matched.unused next (omega arith))

    -- a linked object is there
    pub linked_there : (p c : ℕ) → set.contains (links_in (objects p)) c ≡ true → is_present (objects c) ≡ true
    linked_there p c k =
        let l = link_addresses p c k in tree.filled c (l.step ∷ l.above) l.at_linked

    -- an object that is reached from one that is there is there
    pub reached_there : (o q : ℕ) → is_present (objects o) ≡ true → Reached objects o q → is_present (objects q) ≡ true
    reached_there o q t r =
        let at_o = address_of o t in
        let at_q = reached_under nat_eq eqb_tells objects next (objects_at objects tree.naming) tree.naming tree.matched o at_o.0 at_o.1 q r in
        tree.filled q at_q.0 at_q.1

    -- an object links none from which it was reached, so no container is reached from an object that it links
    pub not_back : (d o : ℕ) → set.contains (links_in (objects d)) o ≡ true → Reached objects o d → ⊥
    not_back d o k r = no_way_back nat_eq eqb_tells objects next (objects_at objects tree.naming) tree.naming tree.matched o d r k

    -- an object is linked by one other at most
    pub one_link : (p q c : ℕ) → set.contains (links_in (objects p)) c ≡ true → set.contains (links_in (objects q)) c ≡ true → p ≡ q
    one_link = one_holder nat_eq eqb_tells objects next (objects_at objects tree.naming) tree.naming tree.matched

    -- and the root is reached from no linked object
    pub root_not_reached : (d o : ℕ) → set.contains (links_in (objects d)) o ≡ true → Reached objects o root → ⊥
    root_not_reached d o k =
        let l = link_addresses d o k in not_below o (l.step ∷ l.above) l.at_linked root (ap (is_under nat_eq (l.step ∷ l.above)) tree.rooted)

    -- for each number it is decided whether a linked object reaches it
    pub reached_decided : (d o : ℕ) → set.contains (links_in (objects d)) o ≡ true → (q : ℕ) → Reached objects o q ⊎ (Reached objects o q → ⊥)
    reached_decided d o k =
        let at_o = address_of o (linked_there d o k) in
        reached_or_not nat_eq eqb_tells objects next (objects_at objects tree.naming) tree.naming tree.matched o at_o.0 at_o.1

    -- an object with the same links is put in the place of one that is there
    pub tree_put : (n : ℕ) (o : Object L) → is_present (objects n) ≡ true
        → ((c : ℕ) → set.contains (kind_links o.kind) c ≡ set.contains (links_in (objects n)) c)
        → IsTree (put objects n o) root next
    tree_put n o t same_links =
        let at_n = address_of n t in
        record {
          naming = tree.naming;
          matched =
              matched_itself nat_eq (put objects n o) next _ tree.naming (matched_put nat_eq eqb_tells objects next
              (objects_at objects tree.naming) tree.naming tree.matched n at_n.0 o at_n.1 same_links);
          rooted = tree.rooted;
          own_step = tree.own_step;
          filled = λ q a i. elim (eqb_tells q n) [
            | inl e ↦ ap is_present (ap (put objects n o) e.1 ∙ put_here objects n o)
            | inr e ↦ ap is_present (put_other objects n o q e.1) ∙ tree.filled q a i
          ];
        }

    -- an object is changed, and its links stay
    pub tree_changed : (n : ℕ) (f : Object L → Object L) → ((o : Object L) → kind_links (f o).kind ≡ kind_links o.kind)
        → IsTree (changed_at objects n f) root next
    tree_changed n f same_links = by (objects n) refl
      where
        unchanged : objects n ≡ None → objects ≡ changed_at objects n f
        unchanged none i q =
            sym (at_each objects n q (option_map f (objects q)) (objects q) (objects q)
            (λ e. ap (option_map f) (ap objects e ∙ none) ∙ sym (ap objects e ∙ none)) (λ e. refl)) i

        by : (y : Option (Object L)) → objects n ≡ y → IsTree (changed_at objects n f) root next
        by None is = subst (λ (x : Objects L). IsTree x root next) (unchanged is) tree
        by (Some o) is =
            subst (λ (x : Objects L). IsTree x root next) (put_changed objects n f o (sym is))
            (tree_put n (f o) (ap is_present is) (λ c. ap (λ l. set.contains l c) (same_links o) ∙ ap (λ y. set.contains (links_in y) c) (sym is)))

    -- a segment gets other bytes
    pub tree_held : (n : ℕ) (bytes : List ℕ) → IsTree (changed_at objects n (holding bytes)) root next
    tree_held n bytes = tree_changed n (holding bytes) (λ o. kind_held_links bytes o.kind)

    -- a new object that links nothing is linked by a container, under the next number
    pub tree_new : (d : ℕ) (o : Object L) → is_container (objects d) ≡ true
        → ((c : ℕ) → set.contains (kind_links o.kind) c ≡ false) → IsTree (with_new objects d next o) root (next + 1)
    tree_new d o container leaf =
        let at_d = address_of d (container_there (objects d) container) in
        let apart = not_next d at_d.0 at_d.1 in
        record {
          naming = with_number nat_eq tree.naming next (next ∷ at_d.0);
          matched = matched_itself nat_eq (with_new objects d next o) (next + 1) _ (with_number nat_eq tree.naming next (next ∷ at_d.0))
              (matched_new nat_eq eqb_tells objects next (objects_at objects tree.naming) tree.naming tree.matched d
              at_d.0 next o at_d.1 (free at_d.0 (tree.naming.number (next ∷ at_d.0)) refl) container leaf);
          rooted = elim (eqb_tells root next) [
            | inl e ↦ absurd (not_next root [] tree.rooted e.1)
            | inr e ↦ ap (λ b. if b then Some (next ∷ at_d.0) else tree.naming.address root) e.0 ∙ tree.rooted
          ];
          own_step = λ q x a i. elim (eqb_tells q next) [
            | inl e ↦
                let same : next ∷ at_d.0 ≡ x ∷ a =
                inner (next ∷ at_d.0) (x ∷ a)
                (sym (ap (λ b. if b then Some (next ∷ at_d.0) else tree.naming.address q) e.0) ∙ i) in
                let step : next ≡ x = cc in sym step ∙ sym e.1
            | inr e ↦ tree.own_step q x a (sym (ap (λ b. if b then Some (next ∷ at_d.0) else tree.naming.address q) e.0) ∙ i)
          ];
          filled = λ q a i. elim (eqb_tells q next) [
            | inl e ↦ ap is_present (ap (with_new objects d next o) e.1 ∙ new_there objects next d o)
            | inr e ↦ elim (eqb_tells q d) [
              | inl k ↦
                  ap is_present (ap (with_new objects d next o) k.1 ∙ new_holder objects next d o apart)
                  ∙ changed_there (linking next) (objects d) (container_there (objects d) container)
              | inr k ↦
                  ap is_present (new_other objects next d o q e.1 k.1)
                  ∙ tree.filled q a
                  (sym (ap (λ b. if b then Some (next ∷ at_d.0) else tree.naming.address q) e.0) ∙ i)
            ]
          ];
        }
      where
        -- no number has an address whose last step is the next number
        free : (a : Address ℕ) (y : Option ℕ) → tree.naming.number (next ∷ a) ≡ y → y ≡ None
        free a None i = refl
        free a (Some q) i =
            let at_q = tree.matched.addressed (next ∷ a) q i in
            absurd (not_next q (next ∷ a) at_q (sym (tree.own_step q next a at_q)))

    -- an object that a container links is cut off
    pub tree_cut : (d o : ℕ) (new : Objects L) → set.contains (links_in (objects d)) o ≡ true → IsCut objects d o new → IsTree new root next
    tree_cut d o new k is_cut =
        let l = link_addresses d o k in
        record {
          naming = without_below nat_eq tree.naming (l.step ∷ l.above);
          matched =
              matched_itself nat_eq new next _ (without_below nat_eq tree.naming (l.step ∷ l.above))
              (matched_without nat_eq eqb_tells objects next (objects_at objects tree.naming) tree.naming
              tree.matched new d o l.above l.step is_cut l.at_linked l.at_holder);
          rooted = ap (λ y. if is_under nat_eq (l.step ∷ l.above) y then None else y) tree.rooted;
          own_step = λ q x a i. tree.own_step q x a (some_left _ _ (x ∷ a) i).1;
          filled = λ q a i.
              let kept = some_left _ _ a i in
              elim (eqb_tells q d) [
                | inl e ↦ ap is_present (ap new e.1 ∙ is_cut.unlinked) ∙ changed_there (unlinking o) (objects d) (linker_there (objects d) o k)
                | inr e ↦ ap is_present (is_cut.stays q (not_below o (l.step ∷ l.above) l.at_linked q kept.0) e.1) ∙ tree.filled q a kept.1
              ];
        }

  -- so the objects that are left are a tree again
  pub trees_cut : (objects new : Objects L) (d o : ℕ) → AreTree objects → set.contains (links_in (objects d)) o ≡ true
      → IsCut objects d o new → AreTree new
  trees_cut objects new d o trees linked is_cut =
      record {
        root = trees.root;
        next = trees.next;
        tree = tree_cut objects trees.root trees.next trees.tree d o new linked is_cut;
      }

  -- and a table with one more object has a tree too
  pub tree_linked : (before after : Objects L) (root next d n : ℕ) (o : Object L) → IsTree before root next → n ≡ next
      → is_container (before d) ≡ true → ((c : ℕ) → set.contains (kind_links o.kind) c ≡ false)
      → after ≡ with_new before d n o → IsTree after root (next + 1)
  tree_linked before after root next d n o tree same container leaf is =
      subst (λ (x : Objects L). IsTree x root (next + 1)) (sym (is ∙ ap (λ (k : ℕ). with_new before d k o) same))
      (tree_new before root next tree d o container leaf)
