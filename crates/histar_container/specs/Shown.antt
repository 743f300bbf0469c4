-- Objects whose labels are in a store under Ids, and the objects with labels by value that they represent.
use Rattle.std.specs.Prelude.{◌≡◌, ℕ, ◌<◌, ◌≤◌, List, [], ◌∷◌, Option, None, Some, IsSome}
use Rattle.histar_level.specs.Levels.{Levels}
use Rattle.histar_label.specs.Store.{label_at}
use Rattle.histar_object.specs.declared.objects.Kind.{Kind}
use Rattle.histar_object.specs.declared.objects.Kind.TheVariants.{Segment, Container, Thread, Gate}
use Rattle.histar_object.specs.declared.objects.Object.{Object}
use Rattle.histar_object.specs.Objects.{TableModel, Objects, objects_of}

-- a kind with its clearance mapped
abbrev pub kind_by : {A B : Type 0} → (A → B) → Kind A → Kind B
kind_by f (Segment bytes) = Segment bytes
kind_by f (Container links) = Container links
kind_by f (Thread clearance) = Thread (f clearance)
kind_by f (Gate clearance entry) = Gate (f clearance) entry

-- an object with its labels mapped
abbrev pub object_by : {A B : Type 0} → (A → B) → Object A → Object B
object_by f o = record { label = f o.label; kind = kind_by f o.kind }

module _ {Id : Type 0} (labels : Id → Option Levels) where
  -- the listed objects with their labels by value
  abbrev pub listed_shown : List (ℕ × Object Id) → List (ℕ × Object Levels)
  listed_shown [] = []
  listed_shown (e ∷ es) = (e.0, object_by (label_at labels) e.1) ∷ listed_shown es

  -- a table with its labels by value
  abbrev pub shown : TableModel Id → TableModel Levels
  shown t = record { objects = listed_shown t.objects; slots = t.slots; room = t.room }

  -- its objects, by their numbers
  abbrev pub objects_shown : TableModel Id → Objects Levels
  objects_shown t = objects_of (shown t)

  -- the Id of the clearance of a kind stands for a label
  abbrev pub KindStands : Kind Id → Type 0
  KindStands (Segment bytes) = Unit {0}
  KindStands (Container links) = Unit {0}
  KindStands (Thread clearance) = IsSome (labels clearance)
  KindStands (Gate clearance entry) = IsSome (labels clearance)

  -- each Id of an object stands for a label
  pub record Stands (o : Object Id) : Type 0 where
    pub label : IsSome (labels o.label)
    pub kind : KindStands o.kind

  -- each Id of each object stands for a label
  pub record AllStand (objects : Objects Id) : Type 0 where
    pub each : (q : ℕ) (o : Object Id) → objects q ≡ Some o → Stands o

-- no object has this number or a greater one
pub record IsUnusedFrom {L : Type 0} (objects : Objects L) (next : ℕ) : Type 0 where
  pub none : (q : ℕ) → next ≤ q → objects q ≡ None

-- what holds of a kernel's table after every call
pub record IsKept {Id : Type 0} (labels : Id → Option Levels) (t : TableModel Id) (next : ℕ) : Type 0 where
  pub stand : AllStand labels (objects_of t)
  pub unused : IsUnusedFrom (objects_shown labels t) next
  pub positive : 0 < next
