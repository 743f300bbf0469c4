-- What state a table represents after one of its objects gets another label or another clearance.
use Rattle.std.proofs.Common.{◌≡◌, ℕ, Option, Some, None, refl, sym, ap, ◌∙◌, subst}
use Rattle.std.specs.Prelude.{option_map, is_some}
use Rattle.histar_level.specs.Levels.{Levels}
use Rattle.histar_label.specs.Store.{label_at, Keeps}
use Rattle.histar_label.proofs.Stands.{label_at-stands}
use Rattle.histar_object.specs.declared.objects.Kind.{Kind}
use Rattle.histar_object.specs.declared.objects.Kind.TheVariants.{Segment, Container, Thread, Gate}
use Rattle.histar_object.specs.declared.objects.Object.{Object}
use Rattle.histar_object.specs.Objects.{TableModel, Objects, objects_of, changed_at}
use Rattle.histar_object.proofs.Changes.{at_each}
use Rattle.histar_container.specs.Shown.{kind_by, shown, KindStands, AllStand}
use Rattle.histar_container.proofs.Keeping.{all_on, shown_on, shown_changed, stand_changed}
use Rattle.histar_rules.specs.Rights.{with_label, with_clearance, kind_with_clearance}

-- where no object is at the number, a change leaves everything as it was
pub changed_none : {L : Type 0} (objects : Objects L) (n : ℕ) (f : Object L → Object L) → None ≡ objects n → objects ≡ changed_at objects n f
changed_none objects n f none i q =
    sym (at_each objects n q (option_map f (objects q)) (objects q) (objects q)
    (λ e. ap (option_map f) (ap objects e ∙ sym none) ∙ none ∙ sym (ap objects e)) (λ e. refl)) i

module _ {Id : Type 0} (old new : Id → Option Levels) (keeps : Keeps old new) (es fs : TableModel Id) (n : ℕ)
    (all : AllStand old (objects_of es)) (id : Id) (L : Levels) (is : new id ≡ Some L) where
  -- the Ids still stand for labels after an object gets this label
  pub label_stand : objects_of fs ≡ changed_at (objects_of es) n (with_label id) → AllStand new (objects_of fs)
  label_stand e =
      subst (AllStand new) (sym e)
      (stand_changed new (objects_of es) n (with_label id) (λ o s. record { label = ap is_some is; kind = s.kind })
      (all_on old new keeps (objects_of es) all))

  -- and the table represents the object with it
  pub label_shown : objects_of fs ≡ changed_at (objects_of es) n (with_label id)
      → objects_of (shown new fs) ≡ changed_at (objects_of (shown old es)) n (with_label L)
  label_shown e =
      shown_changed new es fs n (with_label id) (with_label L)
      (λ o i. record { label = label_at-stands new id L is i; kind = kind_by (label_at new) o.kind }) e
      ∙ ap (λ objects. changed_at objects n (with_label L)) (shown_on old new keeps es all)

  -- the clearance of a kind with this clearance is the Id of a label
  clearance_stands : (k : Kind Id) → KindStands new k → KindStands new (kind_with_clearance id k)
  clearance_stands (Segment bytes) s = tt
  clearance_stands (Container links) s = tt
  clearance_stands (Thread clearance) s = ap is_some is
  clearance_stands (Gate clearance entry) s = ap is_some is

  -- and the kind represents the clearance
  clearance_shows : (k : Kind Id) → kind_by (label_at new) (kind_with_clearance id k) ≡ kind_with_clearance L (kind_by (label_at new) k)
  clearance_shows (Segment bytes) = refl
  clearance_shows (Container links) = refl
  clearance_shows (Thread clearance) = ap Thread (label_at-stands new id L is)
  clearance_shows (Gate clearance entry) = ap (λ l. Gate l entry) (label_at-stands new id L is)

  -- the Ids still stand for labels after a thread or a gate gets this clearance
  pub clearance_stand : objects_of fs ≡ changed_at (objects_of es) n (with_clearance id) → AllStand new (objects_of fs)
  clearance_stand e =
      subst (AllStand new) (sym e)
      (stand_changed new (objects_of es) n (with_clearance id)
      (λ o s. record { label = s.label; kind = clearance_stands o.kind s.kind })
      (all_on old new keeps (objects_of es) all))

  -- and the table represents it with the clearance
  pub clearance_shown : objects_of fs ≡ changed_at (objects_of es) n (with_clearance id)
      → objects_of (shown new fs) ≡ changed_at (objects_of (shown old es)) n (with_clearance L)
  clearance_shown e =
      shown_changed new es fs n (with_clearance id) (with_clearance L)
      (λ o i. record { label = label_at new o.label; kind = clearance_shows o.kind i }) e
      ∙ ap (λ objects. changed_at objects n (with_clearance L)) (shown_on old new keeps es all)
