-- The labels of objects stay well-formed: an object is put or changed, a new one is linked, a tree is cut off, a category is made.
use Rattle.std.proofs.Common.{◌≡◌, ℕ, ◌<◌, ◌≤◌, ◌||◌, true, false, List, Option, None, Some, ◌⊎◌, inl, inr, refl, sym, ap, ◌∙◌, subst}
use Rattle.std.specs.Prelude.{option_map}
use mathlib.Core.Bool.{false≢true}
use Rattle.std.proofs.lemmas.Bool.Decides.{eqb_tells}
use Rattle.histar_level.specs.declared.level.Level.TheVariants.{Star, L3}
use Rattle.histar_level.specs.Levels.{Levels}
use Rattle.histar_label.specs.Levels.{with_level, is_made, has_star}
use Rattle.histar_label.proofs.Made.{is_made-later, is_made-with_level}
use Rattle.histar_object.specs.declared.objects.Kind.{Kind}
use Rattle.histar_object.specs.declared.objects.Kind.TheVariants.{Segment, Container, Thread, Gate}
use Rattle.histar_object.specs.declared.objects.Object.{Object}
use Rattle.histar_object.specs.Objects.{Objects, put, changed_at, with_new, kind_linking, linking, kind_unlinking, unlinking, kind_holding, holding}
use Rattle.histar_object.specs.Objects.{thread_of, kind_is_segment, kind_is_container, kind_is_thread, kind_clearance}
use Rattle.histar_rules.specs.Rights.{kind_with_three_at, with_star_at, with_label, kind_with_clearance, with_clearance}
use Rattle.histar_container.specs.Tree.{Reached, IsCut}
use Rattle.histar_container.proofs.Addresses.{inner}
use Rattle.histar_container.proofs.TableMoves.{put_here, put_other, changed_here, changed_other}
use Rattle.histar_rules.specs.Sound.{IsWellLabelled}

-- the labels of each object are well-formed
abbrev pub AreLabelled : ℕ → Objects Levels → Type 0
AreLabelled next objects = (q : ℕ) (o : Object Levels) → objects q ≡ Some o → IsWellLabelled next o

-- a kind with the clearance of another, and a segment or a container only where the other is one
record HasLabelsOf (new old : Kind Levels) : Type 0 where
  pub clearance : kind_clearance new ≡ kind_clearance old
  pub holds : (kind_is_segment new || kind_is_container new) ≡ (kind_is_segment old || kind_is_container old)

-- a link more or less changes no labels
linking_labels : (n : ℕ) (k : Kind Levels) → HasLabelsOf (kind_linking n k) k
linking_labels n (Segment bytes) = record { clearance = refl; holds = refl }
linking_labels n (Container links) = record { clearance = refl; holds = refl }
linking_labels n (Thread clearance) = record { clearance = refl; holds = refl }
linking_labels n (Gate clearance entry) = record { clearance = refl; holds = refl }

unlinking_labels : (n : ℕ) (k : Kind Levels) → HasLabelsOf (kind_unlinking n k) k
unlinking_labels n (Segment bytes) = record { clearance = refl; holds = refl }
unlinking_labels n (Container links) = record { clearance = refl; holds = refl }
unlinking_labels n (Thread clearance) = record { clearance = refl; holds = refl }
unlinking_labels n (Gate clearance entry) = record { clearance = refl; holds = refl }

-- nor do other bytes change labels
holding_labels : (new : List ℕ) (k : Kind Levels) → HasLabelsOf (kind_holding new k) k
holding_labels new (Segment bytes) = record { clearance = refl; holds = refl }
holding_labels new (Container links) = record { clearance = refl; holds = refl }
holding_labels new (Thread clearance) = record { clearance = refl; holds = refl }
holding_labels new (Gate clearance entry) = record { clearance = refl; holds = refl }

-- a thread is no segment and no container
thread_alone : (k : Kind Levels) → kind_is_thread k ≡ true → (kind_is_segment k || kind_is_container k) ≡ true → ⊥
thread_alone (Segment bytes) thread other = false≢true thread
thread_alone (Container links) thread other = false≢true thread
thread_alone (Thread clearance) thread other = false≢true other
thread_alone (Gate clearance entry) thread other = false≢true thread

-- a thread stays one with another clearance
clearing_alone : (new : Levels) (k : Kind Levels) → kind_is_thread k ≡ true → kind_is_thread (kind_with_clearance new k) ≡ true
clearing_alone new (Segment bytes) thread = thread
clearing_alone new (Container links) thread = thread
clearing_alone new (Thread clearance) thread = thread
clearing_alone new (Gate clearance entry) thread = thread

-- and with level 3 at a category
cleared_alone : (c : ℕ) (k : Kind Levels) → kind_is_thread k ≡ true → kind_is_thread (kind_with_three_at c k) ≡ true
cleared_alone c (Segment bytes) thread = thread
cleared_alone c (Container links) thread = thread
cleared_alone c (Thread clearance) thread = thread
cleared_alone c (Gate clearance entry) thread = thread

module _ (next : ℕ) where
  -- each clearance of a kind names only categories that were made
  abbrev ClearanceMade : Kind Levels → Type 0
  ClearanceMade k = (clearance : Levels) → kind_clearance k ≡ Some clearance → is_made next clearance ≡ true

  -- a missing clearance names no category
  none_made : (clearance : Levels) → None ≡ Some clearance → is_made next clearance ≡ true
  none_made clearance e = cc

  -- a clearance that equals one of made categories names only these
  some_made : (made old : Levels) → is_made next made ≡ true → Some made ≡ Some old → is_made next old ≡ true
  some_made made old is e = sym (ap (is_made next) (inner made old e)) ∙ is

  -- the new clearance names only categories that were made
  clearing_made : (new : Levels) → is_made next new ≡ true → (k : Kind Levels) → ClearanceMade (kind_with_clearance new k)
  clearing_made new made (Segment bytes) = none_made
  clearing_made new made (Container links) = none_made
  clearing_made new made (Thread clearance) = λ c e. some_made new c made e
  clearing_made new made (Gate clearance entry) = λ c e. some_made new c made e

  -- so does a clearance with level 3 at a category that was made
  cleared_made : (c : ℕ) → 0 < c → c < next → (k : Kind Levels) → ClearanceMade k → ClearanceMade (kind_with_three_at c k)
  cleared_made c low high (Segment bytes) old = none_made
  cleared_made c low high (Container links) old = none_made
  cleared_made c low high (Thread clearance) old =
      λ l e.
      some_made (with_level clearance c L3) l (is_made-with_level next clearance c L3 low high (old clearance refl)) e
  cleared_made c low high (Gate clearance entry) old =
      λ l e.
      some_made (with_level clearance c L3) l (is_made-with_level next clearance c L3 low high (old clearance refl)) e

  -- the labels of an object of another kind with the same labels are well-formed
  well_as : (o : Object Levels) (k : Kind Levels) → HasLabelsOf k o.kind → IsWellLabelled next o
      → IsWellLabelled next (record { label = o.label; kind = k })
  well_as o k same well = record {
    label_made = well.label_made;
    clearance_made = λ c e. well.clearance_made c (sym same.clearance ∙ e);
    owns_nothing = λ h. well.owns_nothing (sym same.holds ∙ h);
  }

  -- so are those of an object with a link more or less
  well_linking : (n : ℕ) (o : Object Levels) → IsWellLabelled next o → IsWellLabelled next (linking n o)
  well_linking n o = well_as o (kind_linking n o.kind) (linking_labels n o.kind)

  well_unlinking : (n : ℕ) (o : Object Levels) → IsWellLabelled next o → IsWellLabelled next (unlinking n o)
  well_unlinking n o = well_as o (kind_unlinking n o.kind) (unlinking_labels n o.kind)

  -- of a segment with other bytes
  pub well_holding : (new : List ℕ) (o : Object Levels) → IsWellLabelled next o → IsWellLabelled next (holding new o)
  well_holding new o = well_as o (kind_holding new o.kind) (holding_labels new o.kind)

  -- of an object without a clearance whose label owns nothing
  pub well_plain : (o : Object Levels) → is_made next o.label ≡ true → has_star o.label ≡ false → kind_clearance o.kind ≡ None → IsWellLabelled next o
  well_plain o made plain none = record {
    label_made = made;
    clearance_made = λ clearance e. none_made clearance (sym none ∙ e);
    owns_nothing = λ h. plain;
  }

  -- of an object with a clearance that is no segment and no container
  pub well_cleared : (o : Object Levels) (clearance : Levels) → is_made next o.label ≡ true
      → kind_clearance o.kind ≡ Some clearance → is_made next clearance ≡ true
      → (kind_is_segment o.kind || kind_is_container o.kind) ≡ false → IsWellLabelled next o
  well_cleared o clearance l has c alone = record {
    label_made = l;
    clearance_made = λ other e. some_made clearance other c (sym has ∙ e);
    owns_nothing = λ h. absurd (false≢true (sym alone ∙ h));
  }

  -- of a thread whose labels name only categories that were made
  pub well_thread : (label clearance : Levels) → is_made next label ≡ true → is_made next clearance ≡ true
      → IsWellLabelled next (thread_of label clearance)
  well_thread label clearance l c = well_cleared (thread_of label clearance) clearance l refl c refl

  -- of a thread with another label
  pub well_relabelled : (label : Levels) (o : Object Levels) → kind_is_thread o.kind ≡ true → is_made next label ≡ true
      → IsWellLabelled next o → IsWellLabelled next (with_label label o)
  well_relabelled label o thread made well = record {
    label_made = made;
    clearance_made = well.clearance_made;
    owns_nothing = λ h. absurd (thread_alone o.kind thread h);
  }

  -- of a thread with another clearance
  pub well_clearing : (clearance : Levels) (o : Object Levels) → kind_is_thread o.kind ≡ true
      → is_made next clearance ≡ true → IsWellLabelled next o → IsWellLabelled next (with_clearance clearance o)
  well_clearing clearance o thread made well = record {
    label_made = well.label_made;
    clearance_made = clearing_made clearance made o.kind;
    owns_nothing = λ h. absurd (thread_alone (kind_with_clearance clearance o.kind) (clearing_alone clearance o.kind thread) h);
  }

  -- and of a thread that owns one more category
  pub well_owning : (c : ℕ) (o : Object Levels) → 0 < c → c < next → kind_is_thread o.kind ≡ true
      → IsWellLabelled next o → IsWellLabelled next (with_star_at c o)
  well_owning c o low high thread well = record {
    label_made = is_made-with_level next o.label c Star low high well.label_made;
    clearance_made = cleared_made c low high o.kind well.clearance_made;
    owns_nothing = λ h. absurd (thread_alone (kind_with_three_at c o.kind) (cleared_alone c o.kind thread) h);
  }

  -- labels stay well-formed as more categories are made
  pub well_later : (later : ℕ) (o : Object Levels) → next ≤ later → IsWellLabelled next o → IsWellLabelled later o
  well_later later o le well = record {
    label_made = is_made-later next later o.label le well.label_made;
    clearance_made = λ c e. is_made-later next later c le (well.clearance_made c e);
    owns_nothing = well.owns_nothing;
  }

module _ (next : ℕ) (objects : Objects Levels) (labelled : AreLabelled next objects) where
  -- all labels stay well-formed where an object is put
  pub labelled_put : (n : ℕ) (o : Object Levels) → IsWellLabelled next o → AreLabelled next (put objects n o)
  labelled_put n o well q p i = elim (eqb_tells q n) [
    | inl e ↦ subst (IsWellLabelled next) (inner o p (sym (put_here objects n o) ∙ sym (ap (put objects n o) e.1) ∙ i)) well
    | inr e ↦ labelled q p (sym (put_other objects n o q e.1) ∙ i)
  ]

  -- a changed object that is there has well-formed labels
  mapped : (f : Object Levels → Object Levels) (p : Object Levels) (y : Option (Object Levels))
      → ((o : Object Levels) → y ≡ Some o → IsWellLabelled next (f o)) → option_map f y ≡ Some p → IsWellLabelled next p
  mapped f p None well i = cc
  mapped f p (Some o) well i = subst (IsWellLabelled next) (inner (f o) p i) (well o refl)

  -- all labels stay well-formed where an object is changed
  pub labelled_changed : (n : ℕ) (f : Object Levels → Object Levels)
      → ((o : Object Levels) → objects n ≡ Some o → IsWellLabelled next (f o))
      → AreLabelled next (changed_at objects n f)
  labelled_changed n f well q p i = elim (eqb_tells q n) [
    | inl e ↦ mapped f p (objects n) well (sym (changed_here objects n f) ∙ sym (ap (changed_at objects n f) e.1) ∙ i)
    | inr e ↦ labelled q p (sym (changed_other objects n f q e.1) ∙ i)
  ]

  -- where an object that a container links is cut off
  pub labelled_cut : (d o : ℕ) (new : Objects Levels) → IsCut objects d o new
      → ((q : ℕ) → Reached objects o q ⊎ (Reached objects o q → ⊥)) → AreLabelled next new
  labelled_cut d o new is_cut decided q p i = elim (eqb_tells q d) [
    | inl e ↦ mapped (unlinking o) p (objects d) (λ x j. well_unlinking next o x (labelled d x j)) (sym is_cut.unlinked ∙ sym (ap new e.1) ∙ i)
    | inr e ↦ elim (decided q) [
      | inl reached ↦ let gone : None ≡ Some p = sym (is_cut.gone q reached) ∙ i in cc
      | inr stays ↦ labelled q p (sym (is_cut.stays q stays e.1) ∙ i)
    ]
  ]

-- and where a new object is linked
pub labelled_new : (next : ℕ) (objects : Objects Levels) → AreLabelled next objects → (d n : ℕ) (o : Object Levels)
    → IsWellLabelled next o → AreLabelled next (with_new objects d n o)
labelled_new next objects labelled d n o well =
    let linked = labelled_changed next objects labelled d (linking n) (λ x i. well_linking next n x (labelled d x i)) in
    labelled_put next (changed_at objects d (linking n)) linked n o well
