-- Objects by number, their parts, and their changes. L is the type of labels, or of Ids that stand for them.
use Rattle.std.specs.Prelude.{ℕ, ◌<◌, Bool, true, false, ◌==◌, nat_eq, List, [], Option, None, Some, option_map, if◌then◌else◌}
use Rattle.std.specs.Ordering.{nat_cmp}
use Rattle.std.specs.FinSet as set
use Rattle.std.specs.Map.{lookup}
use Rattle.std.specs.BTreeMap.{is_at}
pub use Rattle.histar_object.specs.Links.{Numbers, IsListOf, AppendsAll}
use Rattle.histar_object.specs.declared.objects.Entry.{Entry}
use Rattle.histar_object.specs.declared.objects.Kind.{Kind}
use Rattle.histar_object.specs.declared.objects.Kind.TheVariants.{Segment, Container, Thread, Gate}
use Rattle.histar_object.specs.declared.objects.Object.{Object}

-- a table: its objects by number, the slot of each number, and the number of objects for which there is room
pub record TableModel (L : Type 0) : Type 0 where
  pub objects : List (ℕ × Object L)
  pub slots : List (ℕ × ℕ)
  pub room : ℕ

-- an object for some numbers
abbrev pub Objects : Type 0 → Type 0
Objects L = ℕ → Option (Object L)

-- these bytes, and none where they are missing
abbrev pub or_no_bytes : Option (List ℕ) → List ℕ
or_no_bytes None = []
or_no_bytes (Some bytes) = bytes

module _ {L : Type 0} where
  -- the object at each number of a table
  abbrev pub objects_of : TableModel L → Objects L
  objects_of t q = lookup (is_at (nat_cmp q)) t.objects

  -- the slot of each number that has an object
  abbrev pub slot_of : TableModel L → ℕ → Option ℕ
  slot_of t q = lookup (nat_eq q) t.slots

  -- there is room for one more object
  abbrev pub HasRoom : TableModel L → Type 0
  HasRoom t = 0 < t.room

  -- no object at any number
  abbrev pub no_objects : Objects L
  no_objects q = None

  -- the objects with this one at a number
  abbrev pub put : Objects L → ℕ → Object L → Objects L
  put objects n o q = if q == n then Some o else objects q

  -- the objects without the one at a number
  abbrev pub without : Objects L → ℕ → Objects L
  without objects n q = if q == n then None else objects q

  -- the objects with the one at a number changed, if one is there
  abbrev pub changed_at : Objects L → ℕ → (Object L → Object L) → Objects L
  changed_at objects n f q = if q == n then option_map f (objects q) else objects q

  -- a container that links one more number; another kind stays as it is
  abbrev pub kind_linking : ℕ → Kind L → Kind L
  kind_linking n (Container links) = Container (set.insert links n)
  kind_linking n kind = kind

  -- an object with its label, and one more link if it is a container
  abbrev pub linking : ℕ → Object L → Object L
  linking n o = record { label = o.label; kind = kind_linking n o.kind }

  -- a container that links one number less; another kind stays as it is
  abbrev pub kind_unlinking : ℕ → Kind L → Kind L
  kind_unlinking n (Container links) = Container (set.remove links n)
  kind_unlinking n kind = kind

  -- an object with its label, and one link less if it is a container
  abbrev pub unlinking : ℕ → Object L → Object L
  unlinking n o = record { label = o.label; kind = kind_unlinking n o.kind }

  -- the objects with a new one at the number n, which the container d links
  abbrev pub with_new : Objects L → ℕ → ℕ → Object L → Objects L
  with_new objects d n o = put (changed_at objects d (linking n)) n o

  -- a segment with these bytes
  abbrev pub kind_holding : List ℕ → Kind L → Kind L
  kind_holding new (Segment bytes) = Segment new
  kind_holding new kind = kind

  -- an object with its label, and these bytes if it is a segment
  abbrev pub holding : List ℕ → Object L → Object L
  holding new o = record { label = o.label; kind = kind_holding new o.kind }

  -- a thread with this label and this clearance
  abbrev pub thread_of : L → L → Object L
  thread_of label clearance = record { label = label; kind = Thread clearance }

  abbrev pub kind_is_segment : Kind L → Bool
  kind_is_segment (Segment bytes) = true
  kind_is_segment kind = false

  abbrev pub kind_is_container : Kind L → Bool
  kind_is_container (Container links) = true
  kind_is_container kind = false

  abbrev pub kind_is_thread : Kind L → Bool
  kind_is_thread (Thread clearance) = true
  kind_is_thread kind = false

  abbrev pub kind_is_gate : Kind L → Bool
  kind_is_gate (Gate clearance entry) = true
  kind_is_gate kind = false

  -- an object is there
  abbrev pub is_present : Option (Object L) → Bool
  is_present None = false
  is_present (Some o) = true

  -- a segment is there
  abbrev pub is_segment : Option (Object L) → Bool
  is_segment None = false
  is_segment (Some o) = kind_is_segment o.kind

  -- a container is there
  abbrev pub is_container : Option (Object L) → Bool
  is_container None = false
  is_container (Some o) = kind_is_container o.kind

  -- a thread is there
  abbrev pub is_thread : Option (Object L) → Bool
  is_thread None = false
  is_thread (Some o) = kind_is_thread o.kind

  -- a gate is there
  abbrev pub is_gate : Option (Object L) → Bool
  is_gate None = false
  is_gate (Some o) = kind_is_gate o.kind

  abbrev pub kind_links : Kind L → Numbers
  kind_links (Container links) = links
  kind_links kind = set.empty

  -- the numbers that an object links: none, unless it is a container
  abbrev pub links_in : Option (Object L) → Numbers
  links_in None = set.empty
  links_in (Some o) = kind_links o.kind

  abbrev pub kind_bytes : Kind L → Option (List ℕ)
  kind_bytes (Segment bytes) = Some bytes
  kind_bytes kind = None

  -- the bytes of a segment that is there
  abbrev pub bytes_there : Option (Object L) → Option (List ℕ)
  bytes_there None = None
  bytes_there (Some o) = kind_bytes o.kind

  -- the bytes of a segment; an object of another kind has none
  abbrev pub bytes_in : Option (Object L) → List ℕ
  bytes_in o = or_no_bytes (bytes_there o)

  -- the label of an object that is there
  abbrev pub label_there : Option (Object L) → Option L
  label_there None = None
  label_there (Some o) = Some o.label

  abbrev pub kind_clearance : Kind L → Option L
  kind_clearance (Thread clearance) = Some clearance
  kind_clearance (Gate clearance entry) = Some clearance
  kind_clearance kind = None

  -- the clearance of a thread or a gate that is there
  abbrev pub clearance_there : Option (Object L) → Option L
  clearance_there None = None
  clearance_there (Some o) = kind_clearance o.kind

  abbrev pub kind_entry : Kind L → Option Entry
  kind_entry (Gate clearance entry) = Some entry
  kind_entry kind = None

  -- the entry of a gate that is there, which it gives to threads that enter it
  abbrev pub entry_there : Option (Object L) → Option Entry
  entry_there None = None
  entry_there (Some o) = kind_entry o.kind
