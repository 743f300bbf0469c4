-- What one call does to the names of objects and of categories: those that stay keep their numbers.
use Rattle.std.specs.Prelude.{◌≡◌, ℕ, ◌≤◌, true, Some, is_some}
use Rattle.histar_flat.specs.Accounts.{Accounts}
use Rattle.histar_flat.specs.FlatState.{Flat}
use Rattle.histar_object.specs.State.{State}
use Rattle.histar_container.specs.Tree.{Address}
use Rattle.histar_refinement.specs.Addresses.{Step}
use Rattle.histar_refinement.specs.Categories.{CategoryName, IsUsed}
use Rattle.histar_refinement.specs.Represents.{ObjectsMatch, Represents}

-- Under a later naming, the names of an older one have the numbers that they had.
pub record KeepsNames {accounts : Accounts} {s t : State} {f g : Flat} (old : ObjectsMatch accounts s f)
    (new : ObjectsMatch accounts t g) : Type 0 where
  -- a category that is used before and after has the number that it had; one that is used only after was made since
  pub categories : (c : CategoryName) → IsUsed accounts f c → IsUsed accounts g c → new.category c ≡ old.category c
  pub fresh : (c : CategoryName) → (IsUsed accounts f c → ⊥) → IsUsed accounts g c → s.next_category ≤ new.category c
  -- an address that has an object before and after has the number that it had
  pub addresses : (a : Address Step) (q : ℕ) → old.naming.number a ≡ Some q → is_some (new.naming.number a) ≡ true
      → new.naming.number a ≡ Some q

-- a state represents a flat state, under names that keep the numbers of an older representation
pub record RepresentsStill {accounts : Accounts} {s : State} {f : Flat} (old : Represents accounts s f)
    (t : State) (g : Flat) : Type 0 where
  pub represents : Represents accounts t g
  pub names : KeepsNames old.matched represents.matched
