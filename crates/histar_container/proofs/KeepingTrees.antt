-- The invariant of a table, and the objects that it represents, after a tree is cut out of it.
use Rattle.std.proofs.Common.{◌≡◌, ℕ, nat_eq, true, Option, None, Some, Result, Ok, Err, OnOk, OnErr, inl, inr, refl, sym, ap, ◌∙◌, subst}
use Rattle.std.specs.Prelude.{option_map, option_and_then}
use Rattle.std.specs.FinSet as set
use Rattle.std.proofs.lemmas.Bool.Decides.{eqb_tells}
use Rattle.histar_level.specs.Levels.{Levels}
use Rattle.histar_label.specs.Store.{label_at}
use Rattle.histar_object.specs.declared.objects.Kind.{Kind}
use Rattle.histar_object.specs.declared.objects.Kind.TheVariants.{Segment, Container, Thread, Gate}
use Rattle.histar_object.specs.declared.objects.Object.{Object}
use Rattle.histar_object.specs.Objects.{TableModel, Objects, objects_of, changed_at, kind_unlinking, unlinking, links_in, kind_links, is_present}
use Rattle.histar_container.specs.Shown.{kind_by, object_by, shown, KindStands, Stands, AllStand, IsUnusedFrom, IsKept}
use Rattle.histar_container.specs.ObjectsModel.{ObjectsModel, state_of, CutsOff}
use Rattle.histar_container.specs.Tree.{Address, Naming, wanted, objects_at, MatchesNaming, Reached, here, there, AreTree, IsCut}
use Rattle.histar_container.proofs.Shows.{shows}
use Rattle.histar_container.proofs.Keeping.{by_value, shows_all, stand_changed, unused_changed, map_none}
use Rattle.histar_container.proofs.TableMoves.{changed_here, changed_other}
use Rattle.histar_container.proofs.Trees.{reached_decided}

module _ {L : Type 0} (objects new : Objects L) (trees : AreTree objects) (d o : ℕ)
    (linked : set.contains (links_in (objects d)) o ≡ true) (is_cut : IsCut objects d o new) where
  -- an object that is not reached stays, except for the link
  not_reached_is : (q : ℕ) → ¬ Reached objects o q → new q ≡ changed_at objects d (unlinking o) q
  not_reached_is q not_reached = elim (eqb_tells q d) [
    | inl e ↦ ap new e.1 ∙ is_cut.unlinked ∙ sym (ap (changed_at objects d (unlinking o)) e.1 ∙ changed_here objects d (unlinking o))
    | inr e ↦ is_cut.stays q not_reached e.1 ∙ sym (changed_other objects d (unlinking o) q e.1)
  ]

  -- an object that is still there is the old one, except for the link
  pub left_is : (q : ℕ) (x : Object L) → new q ≡ Some x → changed_at objects d (unlinking o) q ≡ Some x
  left_is q x e = elim (reached_decided objects trees.root trees.next trees.tree d o linked q) [
    | inl r ↦ let k : None ≡ Some x = sym (is_cut.gone q r) ∙ e in cc
    | inr r ↦ sym (not_reached_is q r) ∙ e
  ]

  -- and where none was, none is
  pub none_is : (q : ℕ) → changed_at objects d (unlinking o) q ≡ None → new q ≡ None
  none_is q e = elim (reached_decided objects trees.root trees.next trees.tree d o linked q) [
    | inl r ↦ is_cut.gone q r
    | inr r ↦ not_reached_is q r ∙ e
  ]

module _ {Id : Type 0} (labels : Id → Option Levels) where
  kind_links_by : (k : Kind Id) → kind_links (kind_by (label_at labels) k) ≡ kind_links k
  kind_links_by (Segment bytes) = refl
  kind_links_by (Container links) = refl
  kind_links_by (Thread clearance) = refl
  kind_links_by (Gate clearance entry) = refl

  -- an object with labels by value links the same numbers
  links_by : (o : Option (Object Id)) (c : ℕ) → set.contains (links_in (option_map (object_by (label_at labels)) o)) c ≡ set.contains (links_in o) c
  links_by None c = refl
  links_by (Some o) c = ap (λ l. set.contains l c) (kind_links_by o.kind)

  -- a container of a table links the same numbers, with labels by value
  pub links_shown : (t : TableModel Id) (d c : ℕ)
      → set.contains (links_in (objects_of (shown labels t) d)) c ≡ set.contains (links_in (objects_of t d)) c
  links_shown t d c = ap (λ o. set.contains (links_in o) c) (shows labels t d) ∙ links_by (objects_of t d) c

  pub there_by : (o : Option (Object Id)) → is_present (option_map (object_by (label_at labels)) o) ≡ is_present o
  there_by None = refl
  there_by (Some o) = refl

  kind_unlinked_by : (n : ℕ) (k : Kind Id) → kind_by (label_at labels) (kind_unlinking n k) ≡ kind_unlinking n (kind_by (label_at labels) k)
  kind_unlinked_by n (Segment bytes) = refl
  kind_unlinked_by n (Container links) = refl
  kind_unlinked_by n (Thread clearance) = refl
  kind_unlinked_by n (Gate clearance entry) = refl

  unlinked_by : (n : ℕ) (o : Option (Object Id))
      → option_map (object_by (label_at labels)) (option_map (unlinking n) o)
      ≡ option_map (unlinking n) (option_map (object_by (label_at labels)) o)
  unlinked_by n None = refl
  unlinked_by n (Some o) = λ i. Some (record { label = label_at labels o.label; kind = kind_unlinked_by n o.kind i })

  kind_unlinked_stands : (n : ℕ) (k : Kind Id) → KindStands labels k → KindStands labels (kind_unlinking n k)
  kind_unlinked_stands n (Segment bytes) s = s
  kind_unlinked_stands n (Container links) s = s
  kind_unlinked_stands n (Thread clearance) s = s
  kind_unlinked_stands n (Gate clearance entry) s = s

  unlinked_stands : (n : ℕ) (o : Object Id) → Stands labels o → Stands labels (unlinking n o)
  unlinked_stands n o s = record { label = s.label; kind = kind_unlinked_stands n o.kind s.kind }

  module _ (objects : Objects Id) where
    -- objects match a naming if they match it with labels by value
    matched_below : (next : ℕ) (naming : Naming ℕ)
        → MatchesNaming nat_eq (by_value labels objects) next (objects_at (by_value labels objects) naming) naming
        → MatchesNaming nat_eq objects next (objects_at objects naming) naming
    matched_below next naming matched = record {
      as_expected = λ q. by q (naming.address q) refl;
      numbered = matched.numbered;
      addressed = matched.addressed;
      held = matched.held;
      links = λ q c a i. sym (links_by (objects q) c) ∙ matched.links q c a i;
      unused = matched.unused;
    }
      where
        by : (q : ℕ) (y : Option (Address ℕ)) → naming.address q ≡ y → objects q ≡ wanted (objects_at objects naming) y
        by q None i =
            map_none (object_by (label_at labels)) (objects q)
            (matched.as_expected q ∙ ap (wanted (objects_at (by_value labels objects) naming)) i)
        by q (Some a) i = sym (ap (option_and_then objects) (matched.numbered q a i))

    -- objects are a tree if they are one with labels by value
    pub trees_below : AreTree (by_value labels objects) → AreTree objects
    trees_below trees = record {
      root = trees.root;
      next = trees.next;
      tree = record {
        naming = trees.tree.naming;
        matched = matched_below trees.next trees.tree.naming trees.tree.matched;
        rooted = trees.tree.rooted;
        own_step = trees.tree.own_step;
        filled = λ q a i. sym (there_by (objects q)) ∙ trees.tree.filled q a i;
      };
    }

    reached_below : (o q : ℕ) → Reached (by_value labels objects) o q → Reached objects o q
    reached_below o q here = here
    reached_below o q (there p c r k) = there p q (reached_below o p r) (sym (links_by (objects p) q) ∙ k)

    reached_above : (o q : ℕ) → Reached objects o q → Reached (by_value labels objects) o q
    reached_above o q here = here
    reached_above o q (there p c r k) = there p q (reached_above o p r) (links_by (objects p) q ∙ k)

    -- a tree that is cut off is cut off by value
    pub cut_above : (new : Objects Id) (d o : ℕ) → IsCut objects d o new → IsCut (by_value labels objects) d o (by_value labels new)
    cut_above new d o is_cut = record {
      gone = λ q r. ap (option_map (object_by (label_at labels))) (is_cut.gone q (reached_below o q r));
      stays = λ q not_reached other. ap (option_map (object_by (label_at labels))) (is_cut.stays q (λ r. not_reached (reached_above o q r)) other);
      unlinked = ap (option_map (object_by (label_at labels))) is_cut.unlinked ∙ unlinked_by o (objects d);
    }

  module _ (es : TableModel Id) where
    -- the objects of a table are a tree if those that it represents are
    pub trees_there : AreTree (objects_of (shown labels es)) → AreTree (objects_of es)
    trees_there trees = trees_below (objects_of es) (subst (λ (x : Objects Levels). AreTree x) (shows_all labels es) trees)

    -- an object is linked in a table if it is linked in the objects that the table represents
    pub linked_in_table : (d o : ℕ) → set.contains (links_in (objects_of (shown labels es) d)) o ≡ true
        → set.contains (links_in (objects_of es d)) o ≡ true
    linked_in_table d o k =
        sym (links_by (objects_of es d) o)
        ∙ sym (ap (λ (x : Objects Levels). set.contains (links_in (x d)) o) (shows_all labels es)) ∙ k

    module _ (fs : TableModel Id) (d o : ℕ) where
      -- cutting a tree out of a table cuts it out of the objects that the table represents
      pub shown_cut : IsCut (objects_of es) d o (objects_of fs) → IsCut (objects_of (shown labels es)) d o (objects_of (shown labels fs))
      shown_cut is_cut =
          subst (λ (x : Objects Levels). IsCut x d o (objects_of (shown labels fs))) (sym (shows_all labels es))
          (subst (IsCut (by_value labels (objects_of es)) d o) (sym (shows_all labels fs)) (cut_above (objects_of es) (objects_of fs) d o is_cut))

      -- cutting a tree out of a table keeps the table's invariant
      kept_cut : (next : ℕ) → IsKept labels es next → AreTree (objects_of (shown labels es))
          → set.contains (links_in (objects_of (shown labels es) d)) o ≡ true
          → IsCut (objects_of es) d o (objects_of fs) → IsKept labels fs next
      kept_cut next kept trees linked is_cut =
          let stand = stand_changed labels (objects_of es) d (unlinking o) (unlinked_stands o) kept.stand in
          let unused = unused_changed (objects_of (shown labels es)) next kept.unused d (unlinking o) in
          record {
            stand =
                record {
                  each = λ q x e. stand.each q x (left_is (objects_of es) (objects_of fs) (trees_there trees) d o
                      (linked_in_table d o linked) is_cut q x e);
                };
            unused =
                record {
                  none = λ q le. none_is (objects_of (shown labels es)) (objects_of (shown labels fs)) trees d o
                      linked (shown_cut is_cut) q (unused.none q le);
                };
            positive = kept.positive;
          }

      -- tables of the same objects represent the same
      shown_same : objects_of fs ≡ objects_of es → objects_of (shown labels fs) ≡ objects_of (shown labels es)
      shown_same e = shows_all labels fs ∙ ap (by_value labels) e ∙ sym (shows_all labels es)

      -- and keep the same invariant
      kept_same : (next : ℕ) → IsKept labels es next → objects_of fs ≡ objects_of es → IsKept labels fs next
      kept_same next kept e = record {
        stand = subst (AllStand labels) (sym e) kept.stand;
        unused = subst (λ (x : Objects Levels). IsUnusedFrom x next) (sym (shown_same e)) kept.unused;
        positive = kept.positive;
      }

      -- the invariant stays, whether the tree was cut out or not
      pub kept_removed : {A E : Type 0} (next : ℕ) (r : Result A E) → IsKept labels es next
          → AreTree (objects_of (shown labels es)) → set.contains (links_in (objects_of (shown labels es) d)) o ≡ true
          → OnOk r (IsCut (objects_of es) d o (objects_of fs)) → OnErr r (objects_of fs ≡ objects_of es) → IsKept labels fs next
      kept_removed next (Ok x) kept trees linked ok err = kept_cut next kept trees linked ok
      kept_removed next (Err x) kept trees linked ok err = kept_same next kept err

      module _ {A E : Type 0} (next_object next_category : ℕ) (old : ObjectsModel)
          (view_is : record { objects = shown labels es; next_object = next_object; next_category = next_category }
          ≡ old) (r : Result A E) where
        -- the state is cut where a tree was cut out of the table
        pub removed_ok : OnOk r (IsCut (objects_of es) d o (objects_of fs))
            → OnOk r (CutsOff (state_of old) d o (state_of (record
            { objects = shown labels fs; next_object = next_object; next_category = next_category })))
        removed_ok ok = by r ok
          where
            by : (r : Result A E) → OnOk r (IsCut (objects_of es) d o (objects_of fs))
                → OnOk r (CutsOff (state_of old) d o (state_of (record {
                  objects = shown labels fs;
                  next_object = next_object;
                  next_category = next_category;
                })))
            by (Ok x) is_cut =
                subst (λ (k : ObjectsModel). CutsOff (state_of k) d o (state_of (record {
                  objects = shown labels fs;
                  next_object = next_object;
                  next_category = next_category;
                }))) view_is
                (record { is_cut = shown_cut is_cut; next_object = refl; next_category = refl })
            by (Err x) is_cut = tt

        -- and is the old one where none was
        pub removed_err : OnErr r (objects_of fs ≡ objects_of es)
            → OnErr r (state_of
            (record { objects = shown labels fs; next_object = next_object; next_category = next_category })
            ≡ state_of old)
        removed_err err = by r err
          where
            by : (r : Result A E) → OnErr r (objects_of fs ≡ objects_of es)
                → OnErr r (state_of
                (record
                { objects = shown labels fs; next_object = next_object; next_category = next_category })
                ≡ state_of old)
            by (Ok x) e = tt
            by (Err x) e = (λ i. record { objects = shown_same e i; next_object = next_object; next_category = next_category }) ∙ ap state_of view_is
