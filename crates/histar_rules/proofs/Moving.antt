-- Objects whose labels move to another store.
use Rattle.std.proofs.Common.{◌≡◌, ◌≢◌, ℕ, ◌+◌, ◌<◌, ◌≤◌, Option, Some, None, IsSome, inl, inr, unwrap_or}
use Rattle.std.proofs.Common.{refl, sym, ap, ◌∙◌, subst, arith}
use Rattle.std.specs.Prelude.{is_some, option_map}
use mathlib.Core.Bool.{false≢true}
use Rattle.std.proofs.lemmas.Bool.{cases_lt}
use Rattle.histar_level.specs.declared.level.Level.TheVariants.{L1}
use Rattle.histar_level.specs.Levels.{Levels}
use Rattle.histar_label.specs.Levels.{constant}
use Rattle.histar_label.specs.Store.{label_at, Keeps}
use Rattle.histar_object.specs.declared.objects.Kind.{Kind}
use Rattle.histar_object.specs.declared.objects.Kind.TheVariants.{Segment, Container, Thread, Gate}
use Rattle.histar_object.specs.declared.objects.Object.{Object}
use Rattle.histar_object.specs.Objects.{TableModel, Objects, objects_of, kind_clearance}
use Rattle.histar_container.specs.Shown.{kind_by, object_by, objects_shown, KindStands, Stands, AllStand, IsUnusedFrom}
use Rattle.histar_container.proofs.Shows.{shows}
use Rattle.histar_container.proofs.Addresses.{inner}
use Rattle.histar_container.proofs.Keeping.{map_none}
use Rattle.histar_rules.specs.InUse.{IsIn, HasLabelsIn, HaveLabelsIn, IsMoved}

module _ {Id : Type 0} (old : Id → Option Levels) where
  -- the clearance of a kind has a label
  clearance_stands : (k : Kind Id) (id : Id) → KindStands old k → kind_clearance k ≡ Some id → IsSome (old id)
  clearance_stands (Segment bytes) id stands is = cc
  clearance_stands (Container links) id stands is = cc
  clearance_stands (Thread clearance) id stands is = subst (λ i. IsSome (old i)) (inner clearance id is) stands
  clearance_stands (Gate clearance entry) id stands is = subst (λ i. IsSome (old i)) (inner clearance id is) stands

  module _ (before after : Id → Option Levels) (keeps : Keeps before after) where
    -- a label stays in a store that keeps all labels
    label_kept : (id found : Id) (label : Option Levels) → label ≡ old id → IsSome label → before found ≡ label → after found ≡ old id
    label_kept id found None is there same = absurd (false≢true there)
    label_kept id found (Some L) is there same = keeps found L same ∙ is

    pub in_on : (id : Id) → IsSome (old id) → IsIn old before id → IsIn old after id
    in_on id there here = record { found = here.found; same = label_kept id here.found (old id) refl there here.same }

    -- so do the labels of an object
    pub labels_on : (o : Object Id) → Stands old o → HasLabelsIn old before o → HasLabelsIn old after o
    labels_on o stands has = record {
      label = in_on o.label stands.label has.label;
      clearance = λ id is. in_on id (clearance_stands o.kind id stands.kind is) (has.clearance id is);
    }

    -- the labels of one more object are there
    pub labels_more : (objects : Objects Id) (n : ℕ) → AllStand old objects
        → ((o : Object Id) → objects n ≡ Some o → HasLabelsIn old after o)
        → HaveLabelsIn old before objects n → HaveLabelsIn old after objects (n + 1)
    labels_more objects n stand here have = record {
      each = λ q o below is. elim (cases_lt q n) [
        | inl lower ↦ labels_on o (stand.each q o is) (have.each q o lower is)
        | inr higher ↦ let last : q ≡ n = omega arith in here o (sym (ap objects last) ∙ is)
      ];
    }

    -- the labels of the object at a number are there once its clearance is put after its label
    pub labels_put : (here : Option (Object Id)) (o p : Object Id) → Some o ≡ here → here ≡ Some p → Stands old o
        → IsIn old before o.label → ((id : Id) → kind_clearance o.kind ≡ Some id → IsIn old after id) → HasLabelsIn old after p
    labels_put here o p there is stands label clearance =
        subst (HasLabelsIn old after) (inner o p (there ∙ is)) (record { label = in_on o.label stands.label label; clearance = clearance })

module _ {Id : Type 0} (old new : Id → Option Levels) where
  -- an object with the Ids of its labels in another store is moved there
  pub object_moved : (o left : Object Id) → IsSome (old o.label) → new left.label ≡ old o.label → KindStands new left.kind
      → kind_by (label_at new) left.kind ≡ kind_by (label_at old) o.kind → IsMoved old new (Some o) (Some left)
  object_moved o left stands label kind_stands kind = record {
    same = λ i. Some (record { label = unwrap_or (label i) (constant L1); kind = kind i });
    stands = λ p is.
        subst (Stands new) (inner left p is) (record { label = ap is_some label ∙ stands; kind = kind_stands });
  }

  -- the objects below a number are moved, and the others are as before
  pub record AreMoved (before after : Objects Id) (n : ℕ) : Type 0 where
    pub moved : (q : ℕ) → q < n → IsMoved old new (before q) (after q)
    pub rest : (q : ℕ) → n ≤ q → after q ≡ before q

  -- one more object is moved
  pub moved_more : (before now after : Objects Id) (n : ℕ) → AreMoved before now n
      → IsMoved old new (now n) (after n) → ((q : ℕ) → q ≢ n → after q ≡ now q) → AreMoved before after (n + 1)
  moved_more before now after n are here others = record {
    moved = λ q below. elim (cases_lt q n) [
      | inl lower ↦ subst (IsMoved old new (before q)) (sym (others q (omega arith))) (are.moved q lower)
      | inr higher ↦
          let last : n ≡ q = omega arith in
          subst (λ b. IsMoved old new b (after q)) (are.rest q higher) (subst (λ m. IsMoved old new (now m) (after m)) last here)
    ];
    rest = λ q above. others q (omega arith) ∙ are.rest q (omega arith);
  }

  module _ (es fs : TableModel Id) (next : ℕ) (unused : IsUnusedFrom (objects_shown old es) next)
      (are : AreMoved (objects_of es) (objects_of fs) next) where
    -- no object is at the numbers that are unused
    none_after : (q : ℕ) → next ≤ q → objects_of fs q ≡ None
    none_after q above =
        are.rest q above
        ∙ map_none (object_by (label_at old)) (objects_of es q) (sym (shows old es q) ∙ unused.none q above)

    -- so once all objects are moved, they show the same
    pub moved_shown : objects_shown new fs ≡ objects_shown old es
    moved_shown i q =
        (shows new fs q
        ∙ (elim (cases_lt q next) as
        (λ _. option_map (object_by (label_at new)) (objects_of fs q) ≡ option_map (object_by (label_at old)) (objects_of es q)) [
          | inl below ↦ (are.moved q below).same
          | inr above ↦ ap (option_map (object_by (label_at new))) (none_after q above) ∙ sym (sym (shows old es q) ∙ unused.none q above)
        ])
        ∙ sym (shows old es q)) i

    -- and their Ids have labels
    pub moved_stand : AllStand new (objects_of fs)
    moved_stand = record {
      each = λ q o is. elim (cases_lt q next) [
        | inl below ↦ (are.moved q below).stands o is
        | inr above ↦ let none : None ≡ Some o = sym (none_after q above) ∙ is in cc
      ];
    }
