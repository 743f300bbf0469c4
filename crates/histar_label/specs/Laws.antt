-- What the comparisons, the join and the floor of labels amount to, in the terms of orders.
use Rattle.std.specs.Prelude.{◌≡◌, ◌≢◌, ◌↔◌, ◌⊎◌, ℕ, ◌≤◌, Bool, IsTrue}
use Rattle.histar_level.specs.declared.level.Level.TheVariants.{Star}
use Rattle.histar_level.specs.Level.{rank}
use Rattle.histar_level.specs.Levels.{Levels, level_of, default_of, exceptions_of}
use Rattle.histar_label.specs.Levels.{grades, raised_grades, joined, floor_grades, IsBelow, IsSame, IsDefault, ListsExceptions, HasStar}
use Rattle.histar_label.specs.Levels.{NamesOnlyMade, is_below, is_below_raised, is_below_join, is_below_join_raised, has_star, is_made}
use Rattle.histar_label.specs.Floors.{join_of, floor_of}
use Rattle.histar_label.specs.Exceptions.{IsRising}

-- the two labels have the same level at each category
abbrev pub IsSameFunction : Levels → Levels → Type 0
IsSameFunction L M = (c : ℕ) → level_of L c ≡ level_of M c

-- labels are compared as functions: each function has one value, and the test decides equality
pub record ComparesFunctions (test : Levels → Levels → Bool) : Type 0 where
  pub one_value : (L M : Levels) → IsSameFunction L M → L ≡ M
  pub decided : (L M : Levels) → IsTrue (test L M) ↔ IsSameFunction L M

-- a label is determined by its default and its exceptions, in rising order
pub record IsListed (L : Levels) : Type 0 where
  pub default : IsDefault L (default_of L)
  pub rising : IsRising (exceptions_of L)
  pub listed : ListsExceptions L (exceptions_of L)

-- each test decides what holds at every category, and the join and the floor have the level of their rule at each category
pub record TestsArePointwise : Type 0 where
  pub below : (L M : Levels) → IsTrue (is_below L M) ↔ IsBelow (grades L) (grades M)
  pub below_raised : (L M : Levels) → IsTrue (is_below_raised L M) ↔ IsBelow (grades L) (raised_grades M)
  pub below_join : (L F S : Levels) → IsTrue (is_below_join L F S) ↔ IsBelow (grades L) (joined (grades F) (grades S))
  pub below_join_raised : (L F S : Levels) → IsTrue (is_below_join_raised L F S) ↔ IsBelow (grades L) (joined (grades F) (raised_grades S))
  pub join : (L M : Levels) → IsSame (grades (join_of L M)) (joined (grades L) (grades M))
  pub floor : (L M : Levels) → IsSame (grades (floor_of L M)) (floor_grades L M)
  pub star : (L : Levels) → IsTrue (has_star L) ↔ HasStar L
  pub made : (next : ℕ) (L : Levels) → IsTrue (is_made next L) ↔ NamesOnlyMade next L

-- the test is a partial order: labels that are each below the other have the same level at each category
pub record IsPartialOrder (test : Levels → Levels → Bool) : Type 0 where
  pub reflexive : (L : Levels) → IsTrue (test L L)
  pub transitive : (L M N : Levels) → IsTrue (test L M) → IsTrue (test M N) → IsTrue (test L N)
  pub antisymmetric : (L M : Levels) → IsTrue (test L M) → IsTrue (test M L) → IsSameFunction L M

-- J is above both labels, and below each label that is above both
pub record IsLeastUpperBound (L M J : Levels) : Type 0 where
  pub above_first : IsTrue (is_below L J)
  pub above_second : IsTrue (is_below M J)
  pub least : (N : Levels) → IsTrue (is_below L N) → IsTrue (is_below M N) → IsTrue (is_below J N)

-- N has star where either label has star, and elsewhere is at least as high as both
pub record OwnsAndBounds (L M N : Levels) : Type 0 where
  pub owns : (c : ℕ) → (level_of L c ≡ Star) ⊎ (level_of M c ≡ Star) → level_of N c ≡ Star
  pub bounds : (c : ℕ) → level_of L c ≢ Star → level_of M c ≢ Star → (rank (level_of L c) ≤ rank (level_of N c)) × (rank (level_of M c) ≤ rank (level_of N c))

-- L is above M at no category, in the order where star is the highest level
abbrev pub IsRaisedBelow : Levels → Levels → Type 0
IsRaisedBelow L M = IsBelow (raised_grades L) (raised_grades M)

-- F is the least of the labels that own what either owns and are at least both elsewhere; and where star is the highest level it is the
-- least upper bound of both
pub record IsFloor (L M F : Levels) : Type 0 where
  pub itself : OwnsAndBounds L M F
  pub least : (N : Levels) → OwnsAndBounds L M N → IsTrue (is_below F N)
  pub raised_above_first : IsRaisedBelow L F
  pub raised_above_second : IsRaisedBelow M F
  pub raised_least : (N : Levels) → IsRaisedBelow L N → IsRaisedBelow M N → IsRaisedBelow F N
