-- Objects as a tree. L is the type of their labels or Ids; X is the type of a step, with a test of whether two steps are the same.
use Rattle.std.specs.Prelude.{◌≡◌, ◌≢◌, ℕ, ◌≤◌, nat_eq, Bool, true, false, ◌||◌, ◌&&◌, List, [], ◌∷◌, Option, None, Some, is_some, option_map}
use Rattle.std.specs.Prelude.{option_and_then, if◌then◌else◌}
use Rattle.std.specs.FinSet as set
use Rattle.histar_object.specs.declared.objects.Object.{Object}
use Rattle.histar_object.specs.Objects.{Objects, links_in, is_present, unlinking}

-- an address: the steps from the root container to an object, the last step first
abbrev pub Address : Type 0 → Type 0
Address X = List X

-- a naming gives each number an address, and each address a number, or none
pub record Naming (X : Type 0) : Type 0 where
  pub address : ℕ → Option (Address X)
  pub number : Address X → Option ℕ

-- the object that is expected at an address; none where there is no address
abbrev pub wanted : {L X : Type 0} → (Address X → Option (Object L)) → Option (Address X) → Option (Object L)
wanted expected None = None
wanted expected (Some a) = expected a

-- the objects at addresses, by their numbers
abbrev pub objects_at : {L X : Type 0} → Objects L → Naming X → Address X → Option (Object L)
objects_at objects naming a = option_and_then objects (naming.number a)

module _ {X : Type 0} (same_step : X → X → Bool) where
  -- two addresses are the same, step by step
  abbrev pub same_steps : Address X → Address X → Bool
  same_steps [] [] = true
  same_steps [] (y ∷ b) = false
  same_steps (x ∷ a) [] = false
  same_steps (x ∷ a) (y ∷ b) = same_step x y && same_steps a b

  -- an address is a, or is below it
  abbrev pub under : Address X → Address X → Bool
  under a [] = same_steps a []
  under a (y ∷ b) = same_steps a (y ∷ b) || under a b

  -- there is an address, and it is one step below a
  abbrev pub is_one_below : Address X → Option (Address X) → Bool
  is_one_below a None = false
  is_one_below a (Some []) = false
  is_one_below a (Some (y ∷ b)) = same_steps a b

  -- there is an address, and it is a or below a
  abbrev pub is_under : Address X → Option (Address X) → Bool
  is_under a None = false
  is_under a (Some b) = under a b

  -- the naming in which n also has the address a
  abbrev pub with_number : Naming X → ℕ → Address X → Naming X
  with_number naming n a = record {
    address = λ q. if nat_eq q n then Some a else naming.address q;
    number = λ b. if same_steps a b then Some n else naming.number b;
  }

  -- the naming in which a and the addresses below it have no number
  abbrev pub without_below : Naming X → Address X → Naming X
  without_below naming a = record {
    address = λ q. if is_under a (naming.address q) then None else naming.address q;
    number = λ b. if under a b then None else naming.number b;
  }

  module _ {L : Type 0} where
    -- the objects at addresses, with another one at a
    abbrev pub set_at : (Address X → Option (Object L)) → Address X → Option (Object L) → Address X → Option (Object L)
    set_at expected a o b = if same_steps a b then o else expected b

    -- the objects at addresses, without those at a or below it
    abbrev pub cut : (Address X → Option (Object L)) → Address X → Address X → Option (Object L)
    cut expected a b = if under a b then None else expected b

    -- the objects match a naming: they are those expected at their addresses and no others, and each links those one step below it
    pub record MatchesNaming (objects : Objects L) (next : ℕ) (expected : Address X → Option (Object L)) (naming : Naming X) : Type 0 where
      -- the object at a number is the one expected at its address; a number without an address has none
      pub as_expected : (q : ℕ) → objects q ≡ wanted expected (naming.address q)
      -- the address of a number has that number
      pub numbered : (q : ℕ) (a : Address X) → naming.address q ≡ Some a → naming.number a ≡ Some q
      -- the number of an address has that address
      pub addressed : (a : Address X) (q : ℕ) → naming.number a ≡ Some q → naming.address q ≡ Some a
      -- the address above one that has a number has a number
      pub held : (x : X) (a : Address X) → is_some (naming.number (x ∷ a)) ≡ true → is_some (naming.number a) ≡ true
      -- an object links exactly the numbers whose addresses are one step below its own
      pub links : (q c : ℕ) (a : Address X) → naming.address q ≡ Some a → set.contains (links_in (objects q)) c ≡ is_one_below a (naming.address c)
      -- the next number and those above it have no address
      pub unused : (q : ℕ) → next ≤ q → naming.address q ≡ None

module _ {L : Type 0} where
  -- the numbers that are reached from an object by links: its own, and those that a reached object links
  pub data Reached (objects : Objects L) (o : ℕ) : ℕ → Type 0 where
    here : Reached objects o o
    there : (q c : ℕ) → Reached objects o q → set.contains (links_in (objects q)) c ≡ true → Reached objects o c

  -- links lead from the root to each object, in exactly one way, and to no number without an object
  pub record IsTree (objects : Objects L) (root next : ℕ) : Type 0 where
    pub naming : Naming ℕ
    pub matched : MatchesNaming nat_eq objects next (objects_at objects naming) naming
    -- the root has the address of no steps
    pub rooted : naming.address root ≡ Some []
    -- the last step to an object is its own number
    pub own_step : (q x : ℕ) (a : Address ℕ) → naming.address q ≡ Some (x ∷ a) → x ≡ q
    -- an object is at each number that has an address
    pub filled : (q : ℕ) (a : Address ℕ) → naming.address q ≡ Some a → is_present (objects q) ≡ true

  -- the objects are a tree from some root, under numbers below some next one
  pub record AreTree (objects : Objects L) : Type 0 where
    pub root : ℕ
    pub next : ℕ
    pub tree : IsTree objects root next

  -- the objects after the container d no longer links o: none that was reached from o, and all others as they were, except for that link
  pub record IsCut (objects : Objects L) (d o : ℕ) (new : Objects L) : Type 0 where
    pub gone : (q : ℕ) → Reached objects o q → new q ≡ None
    pub stays : (q : ℕ) → ¬ Reached objects o q → q ≢ d → new q ≡ objects q
    pub unlinked : new d ≡ option_map (unlinking o) (objects d)
