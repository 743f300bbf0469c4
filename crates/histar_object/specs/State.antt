-- The state of a kernel, and what its labels allow.
use Rattle.std.specs.Prelude.{ℕ, ◌+◌, Bool, false, ◌&&◌, List, Option, Some}
use Rattle.std.specs.FinSet as set
use Rattle.histar_level.specs.declared.level.Level.TheVariants.{Star, L0, L1, L2, L3}
use Rattle.histar_level.specs.Levels.{Levels}
use Rattle.histar_label.specs.Levels.{constant, with_level, is_below, is_below_raised}
use Rattle.histar_object.specs.declared.objects.Object.{Object}
use Rattle.histar_object.specs.declared.objects.Kind.TheVariants.{Container}
use Rattle.histar_object.specs.Objects.{Objects, no_objects, put, changed_at, with_new, holding, thread_of, label_there, clearance_there}

-- the objects by number, and the numbers that the next object and the next category get
pub record State : Type 0 where
  pub objects : Objects Levels
  pub next_object : ℕ
  pub next_category : ℕ

-- an object with its label by value, if one is there
abbrev pub Found : Type 0
Found = Option (Object Levels)

-- t may observe a: a's label is below t's, where owning counts as above every level
abbrev pub observes : Found → Found → Bool
observes (Some t) (Some a) = is_below_raised a.label t.label
observes t a = false

-- t may modify a: t's label is below a's, and t may observe a
abbrev pub modifies : Found → Found → Bool
modifies (Some t) (Some a) = is_below t.label a.label && is_below_raised a.label t.label
modifies t a = false

-- a label lies between a lower one and an upper one, where both are there
abbrev pub between : Option Levels → Option Levels → Levels → Bool
between (Some lower) (Some upper) label = is_below lower label && is_below label upper
between lower upper label = false

-- a label lies between t's own label and t's clearance
abbrev pub in_range : Found → Levels → Bool
in_range t label = between (label_there t) (clearance_there t) label

-- the state with a new object under the next number, which the container d links
abbrev pub with_object : State → ℕ → Object Levels → State
with_object s d o = record {
  objects = with_new s.objects d s.next_object o;
  next_object = s.next_object + 1;
  next_category = s.next_category;
}

-- the state with an object under the next number, which no container links yet
abbrev pub with_next : State → Object Levels → State
with_next s o = record { objects = put s.objects s.next_object o; next_object = s.next_object + 1; next_category = s.next_category }

-- the state with another label and another clearance for a thread
abbrev pub with_own : State → ℕ → Levels → Levels → State
with_own s t label clearance = record {
  objects = put s.objects t (thread_of label clearance);
  next_object = s.next_object;
  next_category = s.next_category;
}

-- the state after one more category was made
abbrev pub with_next_category : State → State
with_next_category s = record { objects = s.objects; next_object = s.next_object; next_category = s.next_category + 1 }

-- the state with these bytes in a segment
abbrev pub with_segment_bytes : State → ℕ → List ℕ → State
with_segment_bytes s o bytes = record {
  objects = changed_at s.objects o (holding bytes);
  next_object = s.next_object;
  next_category = s.next_category;
}

-- the root container links the boot thread, and only the owner of category 1 may write it
abbrev pub root_object : Object Levels
root_object = record { label = with_level (constant L1) 1 L0; kind = Container (set.insert set.empty 2) }

-- the boot thread owns category 1
abbrev pub boot_thread : Object Levels
boot_thread = thread_of (with_level (constant L1) 1 Star) (with_level (constant L2) 1 L3)

-- the empty kernel: the root container is object 1, the boot thread object 2
abbrev pub empty_state : State
empty_state = record { objects = put (put no_objects 1 root_object) 2 boot_thread; next_object = 3; next_category = 2 }
