-- Sets of the numbers that containers link.
use Rattle.std.specs.Prelude.{◌≡◌, ℕ, ◌≤◌, true, nat_eq, List, ◌++◌}
use Rattle.std.specs.Ordering.{nat_cmp}
use Rattle.std.specs.List.{IsDistinct}
use Rattle.std.specs.Set.{is_member}
use Rattle.std.specs.FinSet as set

-- the numbers that a container links
abbrev pub Numbers : Type 0
Numbers = set.FinSet nat_cmp

-- no number of a set is above this one
abbrev pub AreUpTo : ℕ → Numbers → Type 0
AreUpTo newest links = (q : ℕ) → set.contains links q ≡ true → q ≤ newest

-- a list has each number of a set once, and no other
pub record IsListOf (numbers : List ℕ) (links : Numbers) : Type 0 where
  pub members : (q : ℕ) → is_member nat_eq numbers q ≡ set.contains links q
  pub once : IsDistinct nat_eq numbers

-- the new list is the old one followed by the numbers of a set
pub record AppendsAll (links : Numbers) (old new : List ℕ) : Type 0 where
  pub added : List ℕ
  pub is : new ≡ old ++ added
  pub listed : IsListOf added links
