-- A label as a function from categories to levels that has one level, the default, at all except finitely many categories. Each such
-- function has one value here, so labels that are the same function are equal.
use Rattle.std.specs.Prelude.{◌≢◌, ℕ, ◌+◌, if◌then◌else◌, ◌==◌, List, [], ◌∷◌, Some, unwrap_or, max}
use Rattle.std.specs.Ordering.{nat_cmp}
use Rattle.std.specs.FinMap.{FinMap, get, insert, remove, entries}
use Rattle.histar_level.specs.declared.level.Level.{Level}
use Rattle.histar_level.specs.Level.{rank}

-- the default, and the levels of the categories that have another one, so each function has one value
pub record Levels : Type 0 where
  pub default : Level
  pub others : FinMap nat_cmp Level
  pub differ : (c : ℕ) → get others c ≢ Some default

-- the level of a category
unfoldable pub level_of : Levels → ℕ → Level
level_of L c = unwrap_or (get L.others c) L.default

-- the default: the level of every category except the exceptions
unfoldable pub default_of : Levels → Level
default_of L = L.default

-- the categories that have another level than the default, in rising order, with their levels
unfoldable pub exceptions_of : Levels → List (ℕ × Level)
exceptions_of L = entries L.others

-- a category above each that is listed
abbrev pub above : List (ℕ × Level) → ℕ
above [] = 0
above (e ∷ es) = max (e.0 + 1) (above es)

-- from this category on, a label has its default
unfoldable pub beyond : Levels → ℕ
beyond L = above (entries L.others)

-- the listed levels after c gets l, where c is not listed if l is the default
unfoldable pub relisted : Level → FinMap nat_cmp Level → ℕ → Level → FinMap nat_cmp Level
relisted d m c l = if rank l == rank d then remove m c else insert m c l

-- the default and the other levels
abbrev pub parts : Levels → Level × FinMap nat_cmp Level
parts L = (L.default, L.others)
