-- The objects that a table represents.
use Rattle.std.proofs.Common.{◌≡◌, ℕ, List, [], ◌∷◌, Option, Some, Bool, true, false, cond, refl}
use Rattle.std.specs.Prelude.{option_map}
use Rattle.std.specs.Ordering.{nat_cmp}
use Rattle.std.specs.BTreeMap.{is_at}
use Rattle.histar_level.specs.Levels.{Levels}
use Rattle.histar_label.specs.Store.{label_at}
use Rattle.histar_object.specs.declared.objects.Object.{Object}
use Rattle.histar_object.specs.Objects.{TableModel, Objects, objects_of}
use Rattle.histar_object.proofs.Placing.{object_at}
use Rattle.histar_container.specs.Shown.{object_by, listed_shown, shown, Stands, AllStand}

module _ {Id : Type 0} (labels : Id → Option Levels) where
  step : (b : Bool) (x : Object Id) (o : Option (Object Id)) (p : Option (Object Levels)) → p ≡ option_map (object_by (label_at labels)) o
      → cond b (Some (object_by (label_at labels) x)) p ≡ option_map (object_by (label_at labels)) (cond b (Some x) o)
  step true x o p e = refl
  step false x o p e = e

  shows_listed : (es : List (ℕ × Object Id)) (q : ℕ)
      → object_at (listed_shown labels es) q ≡ option_map (object_by (label_at labels)) (object_at es q)
  shows_listed [] q = refl
  shows_listed (e ∷ es) q = step (is_at (nat_cmp q) e.0) e.1 _ _ (shows_listed es q)

  -- the object that is represented at a number is the table's, with its labels by value
  pub shows : (t : TableModel Id) (q : ℕ) → objects_of (shown labels t) q ≡ option_map (object_by (label_at labels)) (objects_of t q)
  shows t q = shows_listed t.objects q

  -- the Ids of the object at a number stand for labels
  pub stand_there : (objects : Objects Id) (q : ℕ) (o : Object Id) → AllStand labels objects → objects q ≡ Some o → Stands labels o
  stand_there objects q o all e = all.each q o e
