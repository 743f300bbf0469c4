-- The comparisons of labels at every category, and the laws of orders that follow.
use Rattle.std.proofs.Common.{◌≡◌, ◌≤◌, IsTrue, ◌↔◌, sym, arith, ap}
use Rattle.std.proofs.lemmas.Bool.Decides.{same_from_decides}
use Rattle.histar_level.specs.declared.level.Level.{Level}
use Rattle.histar_level.specs.declared.level.Level.TheVariants.{Star, L0, L1, L2, L3}
use Rattle.histar_label.specs.declared.levels.Raising.TheVariants.{Plain, Raised}
use Rattle.histar_label.specs.declared.levels.Test.TheVariants.{BelowJoin, FloorBelow}
use Rattle.histar_level.specs.Level.{rank, raised}
use Rattle.histar_level.specs.Levels.{Levels, level_of}
use Rattle.histar_level.specs.Same.{is_same}
use Rattle.histar_level.proofs.Ranks.{same_level}
use Rattle.histar_level.proofs.Functions.{same_levels}
use Rattle.histar_level.proofs.Equality.{same_label, own_label}
use Rattle.histar_label.specs.Levels.{grades, raised_grades, joined, floor_grades, IsBelow, is_within, is_below, is_below_raised, is_below_join}
use Rattle.histar_label.specs.Levels.{is_below_join_raised}
use Rattle.histar_label.specs.Floors.{join_of, floor_of}
use Rattle.histar_label.specs.Laws.{IsSameFunction, ComparesFunctions, IsListed, TestsArePointwise, IsPartialOrder, IsLeastUpperBound}
use Rattle.histar_label.proofs.Floors.{grades-join_of, grades-floor_of}
use Rattle.histar_label.proofs.Listed.{IsDefault-default_of, IsRising-exceptions_of, ListsExceptions-exceptions_of}
use Rattle.histar_label.proofs.Made.{is_made-law}
use Rattle.histar_label.proofs.Stars.{has_star-law}
use Rattle.histar_label.proofs.Tests.{is_within-law}

-- star is never read as less than the lowest level
rank-raised : (l : Level) → rank l ≤ raised l
rank-raised Star = omega arith
rank-raised L0 = omega arith
rank-raised L1 = omega arith
rank-raised L2 = omega arith
rank-raised L3 = omega arith

-- `below` decides whether the first label is above the second at no category
pub is_below-law : (L M : Levels) → IsTrue (is_below L M) ↔ IsBelow (grades L) (grades M)
is_below-law L M = (
  λ below c. omega (arith, (is_within-law L M M (BelowJoin Plain)).0 below c),
  λ all. (is_within-law L M M (BelowJoin Plain)).1 (λ c. omega (arith, all c)),
)

-- `below_raised` decides this where star in the second is read as J
pub is_below_raised-law : (L M : Levels) → IsTrue (is_below_raised L M) ↔ IsBelow (grades L) (raised_grades M)
is_below_raised-law L M = (
  λ below c. omega (arith, (is_within-law L M M (BelowJoin Raised)).0 below c, rank-raised (level_of M c)),
  λ all. (is_within-law L M M (BelowJoin Raised)).1 (λ c. omega (arith, all c)),
)

-- `below_join` decides this of the greater of two
pub is_below_join-law : (L F S : Levels) → IsTrue (is_below_join L F S) ↔ IsBelow (grades L) (joined (grades F) (grades S))
is_below_join-law L F S = is_within-law L F S (BelowJoin Plain)

-- `below_join_raised` decides this of the greater of two where star in the second is read as J
pub is_below_join_raised-law : (L F S : Levels) → IsTrue (is_below_join_raised L F S) ↔ IsBelow (grades L) (joined (grades F) (raised_grades S))
is_below_join_raised-law L F S = is_within-law L F S (BelowJoin Raised)

-- `floor_below` decides this of the floor of two
pub is_floor_below-law : (L M N : Levels) → IsTrue (is_within L N M FloorBelow) ↔ IsBelow (floor_grades L M) (grades N)
is_floor_below-law L M N = is_within-law L N M FloorBelow

-- it is `below` of the floor
pub is_floor_below : (L M N : Levels) → is_within L N M FloorBelow ≡ is_below (floor_of L M) N
is_floor_below L M N = same_from_decides _ _ (is_floor_below-law L M N) (
  λ below c. rw (sym (grades-floor_of L M c)) ((is_below-law (floor_of L M) N).0 below c),
  λ all. (is_below-law (floor_of L M) N).1 (λ c. rw (grades-floor_of L M c) (all c)),
)

-- each test decides what holds at every category
pub tests_pointwise : TestsArePointwise
tests_pointwise = record {
  below = is_below-law;
  below_raised = is_below_raised-law;
  below_join = is_below_join-law;
  below_join_raised = is_below_join_raised-law;
  join = grades-join_of;
  floor = grades-floor_of;
  star = has_star-law;
  made = is_made-law;
}

-- the test of equality decides whether both labels are one function
pub is_same-law : (L M : Levels) → IsTrue (is_same L M) ↔ IsSameFunction L M
is_same-law L M = (λ same c. ap (λ N. level_of N c) (same_label L M same), λ is. own_label L M (same_levels L M is))

-- labels are compared as functions
pub compares_functions : ComparesFunctions is_same
compares_functions = record { one_value = same_levels; decided = is_same-law }

-- a label is determined by its default and its exceptions
pub listed : (L : Levels) → IsListed L
listed L = record { default = IsDefault-default_of L; rising = IsRising-exceptions_of L; listed = ListsExceptions-exceptions_of L }

-- each label is below itself
pub is_below-refl : (L : Levels) → IsTrue (is_below L L)
is_below-refl L = (is_below-law L L).1 (λ c. omega arith)

-- a label below another is below all labels that this is below
pub is_below-trans : (L M N : Levels) → IsTrue (is_below L M) → IsTrue (is_below M N) → IsTrue (is_below L N)
is_below-trans L M N first second = (is_below-law L N).1 (λ c. omega (arith, (is_below-law L M).0 first c, (is_below-law M N).0 second c))

-- `below` is a partial order
pub below_order : IsPartialOrder is_below
below_order = record {
  reflexive = is_below-refl;
  transitive = is_below-trans;
  antisymmetric =
      λ L M there back c. same_level (level_of L c) (level_of M c)
      (omega (arith, (is_below-law L M).0 there c, (is_below-law M L).0 back c));
}

-- the join is the least upper bound
pub join_least : (L M : Levels) → IsLeastUpperBound L M (join_of L M)
join_least L M = record {
  above_first = (is_below-law L (join_of L M)).1 (λ c. omega (arith, grades-join_of L M c));
  above_second = (is_below-law M (join_of L M)).1 (λ c. omega (arith, grades-join_of L M c));
  least =
      λ N first second. (is_below-law (join_of L M) N).1
      (λ c. omega (arith, grades-join_of L M c, (is_below-law L N).0 first c, (is_below-law M N).0 second c));
}
