-- The labels that objects use, in another store than that of their Ids.
use Rattle.std.specs.Prelude.{◌≡◌, ℕ, ◌<◌, Option, Some, option_map}
use Rattle.histar_level.specs.Levels.{Levels}
use Rattle.histar_label.specs.Store.{label_at}
use Rattle.histar_object.specs.declared.objects.Object.{Object}
use Rattle.histar_object.specs.Objects.{Objects, kind_clearance}
use Rattle.histar_container.specs.Shown.{object_by, Stands}

module _ {Id : Type 0} (old new : Id → Option Levels) where
  -- the label that an Id has in the old store has an Id in the new one
  pub record IsIn (id : Id) : Type 0 where
    pub found : Id
    pub same : new found ≡ old id

  -- so have the label of an object and the clearance of a thread or a gate
  pub record HasLabelsIn (o : Object Id) : Type 0 where
    pub label : IsIn o.label
    pub clearance : (id : Id) → kind_clearance o.kind ≡ Some id → IsIn id

  -- so have the labels of each object below this number
  pub record HaveLabelsIn (objects : Objects Id) (n : ℕ) : Type 0 where
    pub each : (q : ℕ) (o : Object Id) → q < n → objects q ≡ Some o → HasLabelsIn o

  -- what the first Ids show by the old store the second show by the new one, and each of these has a label
  pub record IsMoved (before after : Option (Object Id)) : Type 0 where
    pub same : option_map (object_by (label_at new)) after ≡ option_map (object_by (label_at old)) before
    pub stands : (o : Object Id) → after ≡ Some o → Stands new o
