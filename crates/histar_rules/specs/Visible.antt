-- The part of a kernel that is visible without the taint of a category, and the threads that this taint confines.
use Rattle.std.specs.Prelude.{◌≡◌, ◌≢◌, ℕ, ◌<◌, true, List, [], ◌∷◌, None, Some, if◌then◌else◌, nat_lt}
use Rattle.std.specs.List.{All}
use Rattle.std.specs.FinSet as set
use Rattle.histar_level.specs.declared.level.Level.TheVariants.{Star, L3}
use Rattle.histar_level.specs.Level.{rank}
use Rattle.histar_level.specs.Levels.{Levels, level_of}
use Rattle.histar_object.specs.declared.objects.Object.{Object}
use Rattle.histar_object.specs.Objects.{Objects, links_in, kind_is_thread, kind_is_gate}
use Rattle.histar_object.specs.State.{State, Found}
use Rattle.histar_container.specs.Tree.{Address, Reached}
use Rattle.histar_rules.specs.declared.raw.RawCall.{RawCall}
use Rattle.histar_rules.specs.Sound.{root_number}

-- the object that is there, unless it is tainted in v, which means that its label has v at 3
abbrev pub untainted : ℕ → Found → Found
untainted v None = None
untainted v (Some o) = if nat_lt (rank (level_of o.label v)) (rank L3) then Some o else None

-- The object at the end of a path of links from the root container, if no object on the path, from the root to the last one, is tainted in
-- v; none where a link is missing or an object is tainted. A path lists the numbers below the root, the last one first.
abbrev pub visible : State → ℕ → Address ℕ → Found
visible s v [] = untainted v (s.objects root_number)
visible s v (x ∷ path) = if set.contains (links_in (visible s v path)) x then untainted v (s.objects x) else None

-- the number at the end of a path
abbrev pub end_of : Address ℕ → ℕ
end_of [] = root_number
end_of (x ∷ path) = x

-- the objects that are not tainted in v
abbrev pub untainted_objects : State → ℕ → Objects Levels
untainted_objects s v q = untainted v (s.objects q)

-- the same by numbers: o is at q, is not tainted in v, and links lead to it from the root container through untainted objects alone
pub record IsVisible (s : State) (v q : ℕ) (o : Object Levels) : Type 0 where
  pub there : s.objects q ≡ Some o
  pub below : level_of o.label v ≢ L3
  pub reached : Reached (untainted_objects s v) root_number q

-- the object at t, if it is a thread, is tainted in v
abbrev pub IsTaintedCaller : State → ℕ → ℕ → Type 0
IsTaintedCaller s v t = (o : Object Levels) → s.objects t ≡ Some o → kind_is_thread o.kind ≡ true → level_of o.label v ≡ L3

-- Raw calls of threads that the category v confines: each caller that is a thread is tainted in v, and can't come to own v, since v was
-- already made and no gate owns it.
pub record AreConfined (s : State) (v : ℕ) (calls : List (ℕ × RawCall)) : Type 0 where
  pub made : v < s.next_category
  pub gates : (q : ℕ) (o : Object Levels) → s.objects q ≡ Some o → kind_is_gate o.kind ≡ true → level_of o.label v ≢ Star
  pub callers : All (λ (asked : ℕ × RawCall). IsTaintedCaller s v asked.0) calls
