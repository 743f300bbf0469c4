-- What objects a table represents after it changes, or after its store takes more labels.
use Rattle.std.proofs.Common.{◌≡◌, ℕ, ◌==◌, ◌+◌, Result, Ok, Err, OnOk, OnErr, ◌<◌, ◌≤◌, arith, List, Option, Some, None, IsSome, Bool, true, false}
use Rattle.std.proofs.Common.{inl, inr, refl, sym, ap, ◌∙◌, subst, if◌then◌else◌}
use Rattle.std.specs.Borrow.{Bor}
use Rattle.std.specs.Prelude.{option_map, is_some, take, ◌++◌}
use Rattle.std.specs.Option.{option_copied}
use mathlib.Core.Bool.{false≢true}
use Rattle.std.proofs.lemmas.Bool.{cases_lt}
use Rattle.std.proofs.lemmas.Bool.Decides.{nat_tests}
use Rattle.histar_level.specs.Levels.{Levels}
use Rattle.histar_label.specs.Store.{label_at, Keeps}
use Rattle.histar_label.proofs.Stands.{label_at-stands, label_at-Keeps}
use Rattle.histar_object.specs.declared.objects.Kind.{Kind}
use Rattle.histar_object.specs.declared.objects.Kind.TheVariants.{Segment, Container, Thread, Gate}
use Rattle.histar_object.specs.declared.objects.Object.{Object}
use Rattle.histar_object.specs.Objects.{TableModel, Objects, objects_of, put, changed_at, kind_linking, linking, with_new, kind_holding, holding}
use Rattle.histar_object.specs.Objects.{kind_bytes, or_no_bytes, bytes_in, no_objects, kind_is_segment, kind_is_container, is_container, is_thread}
use Rattle.histar_object.proofs.Changes.{put_back, put_changed}
use Rattle.histar_container.specs.Shown.{kind_by, object_by, shown, KindStands, Stands, AllStand, IsUnusedFrom, IsKept}
use Rattle.histar_container.proofs.Shows.{shows}

some_stands : (x y : Option Levels) → ((L : Levels) → x ≡ Some L → y ≡ Some L) → IsSome x → IsSome y
some_stands None y keeps s = cc
some_stands (Some L) y keeps s = ap is_some (keeps L refl)

module _ {Id : Type 0} where
  -- objects with their labels by value
  abbrev pub by_value : (Id → Option Levels) → Objects Id → Objects Levels
  by_value labels objects q = option_map (object_by (label_at labels)) (objects q)

  -- a table represents its objects with labels by value
  pub shows_all : (labels : Id → Option Levels) (es : TableModel Id) → objects_of (shown labels es) ≡ by_value labels (objects_of es)
  shows_all labels es i q = shows labels es q i

  module _ (old new : Id → Option Levels) (keeps : Keeps old new) where
    -- an Id that stood for a label still does
    pub stands_on : (id : Id) → IsSome (old id) → IsSome (new id)
    stands_on id s = some_stands (old id) (new id) (keeps id) s

    pub kind_on : (k : Kind Id) → KindStands old k → KindStands new k
    kind_on (Segment bytes) s = tt
    kind_on (Container links) s = tt
    kind_on (Thread clearance) s = stands_on clearance s
    kind_on (Gate clearance entry) s = stands_on clearance s

    pub kind_same : (k : Kind Id) → KindStands old k → kind_by (label_at new) k ≡ kind_by (label_at old) k
    kind_same (Segment bytes) s = refl
    kind_same (Container links) s = refl
    kind_same (Thread clearance) s = ap Thread (label_at-Keeps old new keeps clearance s)
    kind_same (Gate clearance entry) s = ap (λ l. Gate l entry) (label_at-Keeps old new keeps clearance s)

    object_same : (o : Object Id) → Stands old o → object_by (label_at new) o ≡ object_by (label_at old) o
    object_same o s i = record { label = label_at-Keeps old new keeps o.label s.label i; kind = kind_same o.kind s.kind i }

    option_same : (o : Option (Object Id)) → ((x : Object Id) → o ≡ Some x → Stands old x)
        → option_map (object_by (label_at new)) o ≡ option_map (object_by (label_at old)) o
    option_same None s = refl
    option_same (Some x) s = ap Some (object_same x (s x refl))

    -- all Ids of a table still stand for labels
    pub all_on : (objects : Objects Id) → AllStand old objects → AllStand new objects
    all_on objects all =
        record {
          each = λ q o e. record
              { label = stands_on o.label (all.each q o e).label; kind = kind_on o.kind (all.each q o e).kind };
        }

    -- and the objects by value stay as they were
    pub value_on : (objects : Objects Id) → AllStand old objects → by_value new objects ≡ by_value old objects
    value_on objects all i q = option_same (objects q) (all.each q) i

    -- an object with a new label, and a clearance that was put before, has Ids that stand for its labels
    pub new_stands : (k : Kind Id) → KindStands old k → (l : Id) (L : Levels) → new l ≡ Some L → Stands new (record { label = l; kind = k })
    new_stands k s l L e = record { label = ap is_some e; kind = kind_on k s }

    -- and it represents the object with these labels
    pub new_shown : (k : Kind Id) → KindStands old k → (K : Kind Levels) → kind_by (label_at old) k ≡ K → (l : Id) (L : Levels) → new l ≡ Some L
        → object_by (label_at new) (record { label = l; kind = k }) ≡ record { label = L; kind = K }
    new_shown k s K same l L e i = record { label = label_at-stands new l L e i; kind = (kind_same k s ∙ same) i }

  -- keeping labels is transitive
  pub trans : (a b c : Id → Option Levels) → Keeps a b → Keeps b c → Keeps a c
  trans a b c h k id L e = k id L (h id L e)

  module _ (labels : Id → Option Levels) (objects : Objects Id) where
    option_if : (b : Bool) (x y : Option (Object Id))
        → option_map (object_by (label_at labels)) (if b then x else y)
        ≡ (if b then option_map (object_by (label_at labels)) x else option_map (object_by (label_at labels)) y)
    option_if true x y = refl
    option_if false x y = refl

    -- putting an object puts it by value
    pub value_put : (n : ℕ) (o : Object Id) → by_value labels (put objects n o) ≡ put (by_value labels objects) n (object_by (label_at labels) o)
    value_put n o i q = option_if (q == n) (Some o) (objects q) i

    option_twice : (f : Object Id → Object Id) (h : Object Levels → Object Levels)
        → ((o : Object Id) → object_by (label_at labels) (f o) ≡ h (object_by (label_at labels) o))
        → (o : Option (Object Id))
        → option_map (object_by (label_at labels)) (option_map f o)
        ≡ option_map h (option_map (object_by (label_at labels)) o)
    option_twice f h same None = refl
    option_twice f h same (Some o) = ap Some (same o)

    -- changing an object changes it by value
    pub value_changed : (n : ℕ) (f : Object Id → Object Id) (h : Object Levels → Object Levels)
        → ((o : Object Id) → object_by (label_at labels) (f o) ≡ h (object_by (label_at labels) o))
        → by_value labels (changed_at objects n f) ≡ changed_at (by_value labels objects) n h
    value_changed n f h same i q =
        (option_if (q == n) (option_map f (objects q)) (objects q)
        ∙ ap (λ o. if q == n then o else option_map (object_by (label_at labels)) (objects q))
        (option_twice f h same (objects q))) i

    stand_if : (b : Bool) (x y : Option (Object Id)) (o : Object Id) → (x ≡ Some o → Stands labels o)
        → (y ≡ Some o → Stands labels o) → (if b then x else y) ≡ Some o → Stands labels o
    stand_if true x y o first second e = first e
    stand_if false x y o first second e = second e

    -- all Ids stand for labels after an object is put whose Ids do
    pub stand_put : (n : ℕ) (o : Object Id) → AllStand labels objects → Stands labels o → AllStand labels (put objects n o)
    stand_put n o all s =
        record {
          each = λ q x e. stand_if (q == n) (Some o) (objects q) x
              (λ same. subst (Stands labels) (some_same o x same) s) (all.each q x) e;
        } where
          some_same : (a b : Object Id) → Some a ≡ Some b → a ≡ b
          some_same a b e = cc

    option_stands : (f : Object Id → Object Id) → ((o : Object Id) → Stands labels o → Stands labels (f o))
        → (a : Option (Object Id)) (x : Object Id) → ((o : Object Id) → a ≡ Some o → Stands labels o)
        → option_map f a ≡ Some x → Stands labels x
    option_stands f on None x all e = cc
    option_stands f on (Some o) x all e = let same : f o ≡ x = cc in subst (Stands labels) same (on o (all o refl))

    -- and after an object is changed whose Ids still do
    pub stand_changed : (n : ℕ) (f : Object Id → Object Id) → ((o : Object Id) → Stands labels o → Stands labels (f o))
        → AllStand labels objects → AllStand labels (changed_at objects n f)
    stand_changed n f on all =
        record {
          each = λ q x e. stand_if (q == n) (option_map f (objects q)) (objects q) x
              (option_stands f on (objects q) x (all.each q)) (all.each q x) e;
        }

module _ {Id : Type 0} (labels : Id → Option Levels) where
  kind_linked : (n : ℕ) (k : Kind Id) → kind_by (label_at labels) (kind_linking n k) ≡ kind_linking n (kind_by (label_at labels) k)
  kind_linked n (Segment bytes) = refl
  kind_linked n (Container links) = refl
  kind_linked n (Thread clearance) = refl
  kind_linked n (Gate clearance entry) = refl

  kind_held : (bytes : List ℕ) (k : Kind Id) → kind_by (label_at labels) (kind_holding bytes k) ≡ kind_holding bytes (kind_by (label_at labels) k)
  kind_held new (Segment bytes) = refl
  kind_held new (Container links) = refl
  kind_held new (Thread clearance) = refl
  kind_held new (Gate clearance entry) = refl

  linked_stands : (n : ℕ) (k : Kind Id) → KindStands labels k → KindStands labels (kind_linking n k)
  linked_stands n (Segment bytes) s = tt
  linked_stands n (Container links) s = tt
  linked_stands n (Thread clearance) s = s
  linked_stands n (Gate clearance entry) s = s

  held_stands : (new : List ℕ) (k : Kind Id) → KindStands labels k → KindStands labels (kind_holding new k)
  held_stands new (Segment bytes) s = tt
  held_stands new (Container links) s = tt
  held_stands new (Thread clearance) s = s
  held_stands new (Gate clearance entry) s = s

  -- a container with one more link has it by value
  pub value_linked : (objects : Objects Id) (d n : ℕ)
      → by_value labels (changed_at objects d (linking n)) ≡ changed_at (by_value labels objects) d (linking n)
  value_linked objects d n =
      value_changed labels objects d (linking n) (linking n)
      (λ o i. record { label = label_at labels o.label; kind = kind_linked n o.kind i })

  -- a segment with other bytes has them by value
  pub value_held : (objects : Objects Id) (q : ℕ) (bytes : List ℕ)
      → by_value labels (changed_at objects q (holding bytes)) ≡ changed_at (by_value labels objects) q (holding bytes)
  value_held objects q bytes =
      value_changed labels objects q (holding bytes) (holding bytes)
      (λ o i. record { label = label_at labels o.label; kind = kind_held bytes o.kind i })

  pub stand_linked : (objects : Objects Id) (d n : ℕ) → AllStand labels objects → AllStand labels (changed_at objects d (linking n))
  stand_linked objects d n = stand_changed labels objects d (linking n) (λ o s. record { label = s.label; kind = linked_stands n o.kind s.kind })

  pub stand_held : (objects : Objects Id) (q : ℕ) (bytes : List ℕ) → AllStand labels objects → AllStand labels (changed_at objects q (holding bytes))
  stand_held objects q bytes =
      stand_changed labels objects q (holding bytes)
      (λ o s. record { label = s.label; kind = held_stands bytes o.kind s.kind })

-- unused numbers stay unused where an object is changed
module _ {L : Type 0} (objects : Objects L) (next : ℕ) (unused : IsUnusedFrom objects next) where
  none_if : (b : Bool) (x y : Option (Object L)) → x ≡ None → y ≡ None → (if b then x else y) ≡ None
  none_if true x y e f = e
  none_if false x y e f = f

  pub unused_changed : (n : ℕ) (f : Object L → Object L) → IsUnusedFrom (changed_at objects n f) next
  unused_changed n f =
      record {
        none = λ q le. none_if (q == n) (option_map f (objects q)) (objects q)
            (ap (option_map f) (unused.none q le)) (unused.none q le);
      }

  -- and where an object is put below them
  pub unused_put : (n above : ℕ) (o : Object L) → n < above → next ≤ above → IsUnusedFrom (put objects n o) above
  unused_put n above o below further = record {
    none = λ q le.
        let other : (q == n) ≡ false = grind (arith, nat_tests) in
        let beyond : next ≤ q = omega arith in
        ap (λ b. if b then Some o else objects q) other ∙ unused.none q beyond;
  }

-- where a copied value is there, a lent one is
pub copied_some : {X : Type 0} (r : Option (Bor X)) (x : Option X) → option_copied r ≡ x → IsSome x → IsSome r
copied_some None x e s = ap is_some e ∙ s
copied_some (Some b) x e s = refl

pub map_none : {A B : Type 0} (f : A → B) (o : Option A) → option_map f o ≡ None → o ≡ None
map_none f None e = refl
map_none f (Some x) e = cc

-- a fact holds where an error is the result
pub on_err : {A E : Type 0} (r : Result A E) (P : Type 0) → P → OnErr r P
on_err (Ok x) P p = tt
on_err (Err e) P p = p

module _ {Id : Type 0} where
  -- all Ids stand for labels where a new object was linked or nothing was changed
  pub linked_stand : {A E : Type 0} (labels : Id → Option Levels) (objects after : Objects Id) (d n : ℕ) (o : Object Id) (r : Result A E)
      → OnOk r (after ≡ with_new objects d n o) → OnErr r (after ≡ objects) → AllStand labels objects → Stands labels o → AllStand labels after
  linked_stand labels objects after d n o (Ok x) ok err all s =
      subst (AllStand labels) (sym ok)
      (stand_put labels (changed_at objects d (linking n)) n o (stand_linked labels objects d n all) s)
  linked_stand labels objects after d n o (Err e) ok err all s = subst (AllStand labels) (sym err) all

  -- and where an object was put or nothing was changed
  pub placed_stand : {A E : Type 0} (labels : Id → Option Levels) (objects after : Objects Id) (n : ℕ) (o : Object Id) (r : Result A E)
      → OnOk r (after ≡ put objects n o) → OnErr r (after ≡ objects) → AllStand labels objects → Stands labels o → AllStand labels after
  placed_stand labels objects after n o (Ok x) ok err all s = subst (AllStand labels) (sym ok) (stand_put labels objects n o all s)
  placed_stand labels objects after n o (Err e) ok err all s = subst (AllStand labels) (sym err) all

  -- tables of the same objects represent the same
  pub shown_same : (labels : Id → Option Levels) (es fs : TableModel Id) → objects_of fs ≡ objects_of es
      → objects_of (shown labels fs) ≡ objects_of (shown labels es)
  shown_same labels es fs e = shows_all labels fs ∙ ap (by_value labels) e ∙ sym (shows_all labels es)

  -- a table of no objects represents no objects
  pub nothing_shown : (labels : Id → Option Levels) (es : TableModel Id) → objects_of es ≡ no_objects → objects_of (shown labels es) ≡ no_objects
  nothing_shown labels es e = shows_all labels es ∙ ap (by_value labels) e

  none_some : (a : Option (Object Id)) (o : Object Id) → a ≡ None → a ≡ Some o → ⊥
  none_some a o e f = cc

  -- a table of no objects has no Ids, and uses no number
  pub nothing_kept : (labels : Id → Option Levels) (es : TableModel Id) (next : ℕ) → 0 < next → objects_of es ≡ no_objects → IsKept labels es next
  nothing_kept labels es next positive e = record {
    stand = record { each = λ q o here. absurd (none_some (objects_of es q) o (ap (λ f. f q) e) here) };
    unused = record { none = λ q le. ap (λ f. f q) (nothing_shown labels es e) };
    positive = positive;
  }

  -- a table represents the same after its store takes more labels
  pub shown_on : (old new : Id → Option Levels) (keeps : Keeps old new) (es : TableModel Id)
      → AllStand old (objects_of es) → objects_of (shown new es) ≡ objects_of (shown old es)
  shown_on old new keeps es all = shows_all new es ∙ value_on old new keeps (objects_of es) all ∙ sym (shows_all old es)

  -- where a table represents no object, it has none
  pub none_there : (labels : Id → Option Levels) (es : TableModel Id) (q : ℕ) → objects_of (shown labels es) q ≡ None → objects_of es q ≡ None
  none_there labels es q e = map_none (object_by (label_at labels)) (objects_of es q) (sym (shows labels es q) ∙ e)

  kind_of : (labels : Id → Option Levels) (k : Kind Id) → kind_is_container (kind_by (label_at labels) k) ≡ kind_is_container k
  kind_of labels (Segment bytes) = refl
  kind_of labels (Container links) = refl
  kind_of labels (Thread clearance) = refl
  kind_of labels (Gate clearance entry) = refl

  container_by : (labels : Id → Option Levels) (o : Option (Object Id)) → is_container (option_map (object_by (label_at labels)) o) ≡ is_container o
  container_by labels None = refl
  container_by labels (Some o) = kind_of labels o.kind

  -- where a table represents a container, it has one
  pub container_there : (labels : Id → Option Levels) (es : TableModel Id) (q : ℕ)
      → is_container (objects_of (shown labels es) q) ≡ true → is_container (objects_of es q) ≡ true
  container_there labels es q e = sym (container_by labels (objects_of es q)) ∙ sym (ap is_container (shows labels es q)) ∙ e

  -- where a table represents a thread, it has an object
  pub thread_there : (labels : Id → Option Levels) (es : TableModel Id) (q : ℕ)
      → is_thread (objects_of (shown labels es) q) ≡ true → None ≡ objects_of es q → ⊥
  thread_there labels es q e none = false≢true (ap is_thread (ap (option_map (object_by (label_at labels))) none ∙ sym (shows labels es q)) ∙ e)

  -- the objects that a table represents after an object is put
  pub shown_put : (labels : Id → Option Levels) (es fs : TableModel Id) (n : ℕ) (o : Object Id) → objects_of fs ≡ put (objects_of es) n o
      → objects_of (shown labels fs) ≡ put (objects_of (shown labels es)) n (object_by (label_at labels) o)
  shown_put labels es fs n o e =
      shows_all labels fs ∙ ap (by_value labels) e ∙ value_put labels (objects_of es) n o
      ∙ ap (λ f. put f n (object_by (label_at labels) o)) (sym (shows_all labels es))

  -- after a new object is linked
  pub shown_new : (labels : Id → Option Levels) (es fs : TableModel Id) (d n : ℕ) (o : Object Id) → objects_of fs ≡ with_new (objects_of es) d n o
      → objects_of (shown labels fs) ≡ with_new (objects_of (shown labels es)) d n (object_by (label_at labels) o)
  shown_new labels es fs d n o e =
      shows_all labels fs ∙ ap (by_value labels) e ∙ value_put labels (changed_at (objects_of es) d (linking n)) n o
      ∙ ap (λ f. put f n (object_by (label_at labels) o))
      (value_linked labels (objects_of es) d n ∙ ap (λ f. changed_at f d (linking n)) (sym (shows_all labels es)))

  -- after an object is changed
  pub shown_changed : (labels : Id → Option Levels) (es fs : TableModel Id) (n : ℕ) (f : Object Id → Object Id)
      (h : Object Levels → Object Levels)
      → ((o : Object Id) → object_by (label_at labels) (f o) ≡ h (object_by (label_at labels) o))
      → objects_of fs ≡ changed_at (objects_of es) n f → objects_of (shown labels fs) ≡ changed_at (objects_of (shown labels es)) n h
  shown_changed labels es fs n f h same e =
      shows_all labels fs ∙ ap (by_value labels) e ∙ value_changed labels (objects_of es) n f h same
      ∙ ap (λ g. changed_at g n h) (sym (shows_all labels es))

  -- and after a segment gets other bytes
  pub shown_held : (labels : Id → Option Levels) (es fs : TableModel Id) (q : ℕ) (bytes : List ℕ)
      → objects_of fs ≡ changed_at (objects_of es) q (holding bytes)
      → objects_of (shown labels fs) ≡ changed_at (objects_of (shown labels es)) q (holding bytes)
  shown_held labels es fs q bytes e =
      shows_all labels fs ∙ ap (by_value labels) e ∙ value_held labels (objects_of es) q bytes
      ∙ ap (λ f. changed_at f q (holding bytes)) (sym (shows_all labels es))

module _ {L : Type 0} (objects : Objects L) (next : ℕ) (unused : IsUnusedFrom objects next) where
  -- the numbers after the next one stay unused where a new object takes the next
  pub unused_new : (d : ℕ) (o : Object L) → IsUnusedFrom (with_new objects d next o) (next + 1)
  unused_new d o =
      unused_put (changed_at objects d (linking next)) next (unused_changed objects next unused d (linking next)) next
      (next + 1) o (omega arith) (omega arith)

  -- unused numbers stay unused where a thread that is there changes
  pub unused_own : (t : ℕ) (o : Object L) → is_thread (objects t) ≡ true → IsUnusedFrom (put objects t o) next
  unused_own t o thread = elim (cases_lt t next) [
    | inl below ↦ unused_put objects next unused t next o below (omega arith)
    | inr above ↦ absurd (false≢true (ap is_thread (sym (unused.none t above)) ∙ thread))
  ]

-- a call that linked a new object keeps the table's invariant
pub kept_new : {Id : Type 0} (labels : Id → Option Levels) (objects : Objects Levels) (fs : TableModel Id) (next d : ℕ) (o : Object Levels)
    → AllStand labels (objects_of fs) → IsUnusedFrom objects next
    → objects_of (shown labels fs) ≡ with_new objects d next o → IsKept labels fs (next + 1)
kept_new labels objects fs next d o stand unused e =
    record {
      stand = stand;
      unused = subst (λ (f : Objects Levels). IsUnusedFrom f (next + 1)) (sym e)
          (unused_new objects next unused d o);
      positive = omega arith;
    }

-- so does a call that puts an object under the next number
pub kept_next : {Id : Type 0} (labels : Id → Option Levels) (objects : Objects Levels) (fs : TableModel Id) (next : ℕ) (o : Object Levels)
    → AllStand labels (objects_of fs) → IsUnusedFrom objects next → objects_of (shown labels fs) ≡ put objects next o → IsKept labels fs (next + 1)
kept_next labels objects fs next o stand unused e =
    record {
      stand = stand;
      unused = subst (λ (f : Objects Levels). IsUnusedFrom f (next + 1)) (sym e)
          (unused_put objects next unused next (next + 1) o (omega arith) (omega arith));
      positive = omega arith;
    }

-- a call that sets a thread's labels, whether it succeeded or not
pub kept_own : {Id A E : Type 0} (labels : Id → Option Levels) (objects : Objects Levels) (fs : TableModel Id)
    (next t : ℕ) (o : Object Levels) (r : Result A E)
    → AllStand labels (objects_of fs) → IsUnusedFrom objects next → 0 < next → is_thread (objects t) ≡ true
    → OnOk r (objects_of (shown labels fs) ≡ put objects t o) → OnErr r (objects_of (shown labels fs) ≡ objects)
    → IsKept labels fs next
kept_own labels objects fs next t o (Ok x) stand unused positive thread ok err =
    record {
      stand = stand;
      unused = subst (λ (f : Objects Levels). IsUnusedFrom f next) (sym ok)
          (unused_own objects next unused t o thread);
      positive = positive;
    }
kept_own labels objects fs next t o (Err x) stand unused positive thread ok err =
    record {
      stand = stand;
      unused = subst (λ (f : Objects Levels). IsUnusedFrom f next) (sym err) unused;
      positive = positive;
    }

-- a call that changes an object, whether it succeeded or not
pub kept_changed : {Id A E : Type 0} (labels : Id → Option Levels) (objects : Objects Levels) (fs : TableModel Id)
    (next n : ℕ) (h : Object Levels → Object Levels) (r : Result A E)
    → AllStand labels (objects_of fs) → IsUnusedFrom objects next → 0 < next
    → OnOk r (objects_of (shown labels fs) ≡ changed_at objects n h)
    → OnErr r (objects_of (shown labels fs) ≡ objects) → IsKept labels fs next
kept_changed labels objects fs next n h (Ok x) stand unused positive ok err =
    record {
      stand = stand;
      unused = subst (λ (f : Objects Levels). IsUnusedFrom f next) (sym ok)
          (unused_changed objects next unused n h);
      positive = positive;
    }
kept_changed labels objects fs next n h (Err x) stand unused positive ok err =
    record {
      stand = stand;
      unused = subst (λ (f : Objects Levels). IsUnusedFrom f next) (sym err) unused;
      positive = positive;
    }

-- and a call that splices a segment, whether it succeeded or not
pub kept_spliced : {Id A E : Type 0} (labels : Id → Option Levels) (es fs : TableModel Id) (next q : ℕ) (bytes : List ℕ) (r : Result A E)
    → OnOk r (objects_of fs ≡ changed_at (objects_of es) q (holding bytes)) → OnErr r (objects_of fs ≡ objects_of es)
    → IsKept labels es next → IsKept labels fs next
kept_spliced labels es fs next q bytes (Ok x) ok err kept = record {
  stand = subst (AllStand labels) (sym ok) (stand_held labels (objects_of es) q bytes kept.stand);
  unused =
      subst (λ (f : Objects Levels). IsUnusedFrom f next) (sym (shown_held labels es fs q bytes ok))
      (unused_changed (objects_of (shown labels es)) next kept.unused q (holding bytes));
  positive = kept.positive;
}
kept_spliced labels es fs next q bytes (Err x) ok err kept = record {
  stand = subst (AllStand labels) (sym err) kept.stand;
  unused = subst (λ (f : Objects Levels). IsUnusedFrom f next) (sym (shown_same labels es fs err)) kept.unused;
  positive = kept.positive;
}

-- the segment that is lent ends with the bytes that were written
pub held_there : {L : Type 0} (objects after : Objects L) (q : ℕ) (o : Object L) (old new : List ℕ) → Some o ≡ objects q
    → o.kind ≡ Segment old → after ≡ put objects q (record { label = o.label; kind = Segment new })
    → after ≡ changed_at objects q (holding new)
held_there objects after q o old new here is e =
    e ∙ ap (put objects q) (λ i. record { label = o.label; kind = sym (ap (kind_holding new) is) i }) ∙ put_changed objects q (holding new) o here

kind_stays : {L : Type 0} (new : List ℕ) (k : Kind L) → kind_is_segment k ≡ false → k ≡ kind_holding new k
kind_stays new (Segment bytes) e = absurd (false≢true (sym e))
kind_stays new (Container links) e = refl
kind_stays new (Thread clearance) e = refl
kind_stays new (Gate clearance entry) e = refl

-- an object that is no segment stays
pub held_not : {L : Type 0} (objects after : Objects L) (q : ℕ) (o : Object L) (new : List ℕ) → Some o ≡ objects q
    → kind_is_segment o.kind ≡ false → after ≡ put objects q o → after ≡ changed_at objects q (holding new)
held_not objects after q o new here other e =
    e ∙ ap (put objects q) (λ i. record { label = o.label; kind = kind_stays new o.kind other i }) ∙ put_changed objects q (holding new) o here

-- a segment that keeps some of its bytes, with new ones after them
pub spliced_there : {L : Type 0} (objects after : Objects L) (q : ℕ) (o : Object L) (old : List ℕ) (keep : ℕ)
    (more new : List ℕ) → Some o ≡ objects q → o.kind ≡ Segment old → new ≡ take keep old ++ more
    → after ≡ put objects q (record { label = o.label; kind = Segment new })
    → after ≡ changed_at objects q (holding (take keep (bytes_in (objects q)) ++ more))
spliced_there objects after q o old keep more new here is new_is e =
    held_there objects after q o old new here is e
    ∙ ap (λ b. changed_at objects q (holding b))
    (new_is
    ∙ ap (λ b. take keep b ++ more) (sym (ap bytes_in (sym here) ∙ ap (λ k. or_no_bytes (kind_bytes k)) is)))

-- a segment that is lent and left alone is as it was
pub left_alone : {L : Type 0} (objects after : Objects L) (q : ℕ) (o : Object L) (old : List ℕ) → Some o ≡ objects q
    → o.kind ≡ Segment old → after ≡ put objects q (record { label = o.label; kind = Segment old }) → after ≡ objects
left_alone objects after q o old here is e = e ∙ ap (put objects q) (λ i. record { label = o.label; kind = sym is i }) ∙ put_back objects q o here

module _ {Id : Type 0} (labels : Id → Option Levels) (es : TableModel Id) (q : ℕ) where
  kind_bytes_by : (k : Kind Id) → kind_bytes (kind_by (label_at labels) k) ≡ kind_bytes k
  kind_bytes_by (Segment bytes) = refl
  kind_bytes_by (Container links) = refl
  kind_bytes_by (Thread clearance) = refl
  kind_bytes_by (Gate clearance entry) = refl

  bytes_by : (o : Option (Object Id)) → bytes_in (option_map (object_by (label_at labels)) o) ≡ bytes_in o
  bytes_by None = refl
  bytes_by (Some o) = ap or_no_bytes (kind_bytes_by o.kind)

  -- the objects that a table represents after a segment is spliced
  pub spliced_shown : (fs : TableModel Id) (keep : ℕ) (more : List ℕ)
      → objects_of fs ≡ changed_at (objects_of es) q (holding (take keep (bytes_in (objects_of es q)) ++ more))
      → objects_of (shown labels fs)
      ≡ changed_at (objects_of (shown labels es)) q
      (holding (take keep (bytes_in (objects_of (shown labels es) q)) ++ more))
  spliced_shown fs keep more e =
      shown_held labels es fs q _ e
      ∙ ap (λ b. changed_at (objects_of (shown labels es)) q (holding (take keep b ++ more)))
      (sym (ap bytes_in (shows labels es q) ∙ bytes_by (objects_of es q)))
