-- The test of whether two labels are equal, by what they list.
use Rattle.std.specs.Prelude.{ℕ, Bool, ◌==◌}
use Rattle.std.specs.Ordering.{on, eq_of_both}
use Rattle.std.specs.Cmp.Lexicographic.{pointwise}
use Rattle.histar_level.specs.declared.level.Level.{Level}
use Rattle.histar_level.specs.Level.{rank}
use Rattle.histar_level.specs.Levels.{Levels, default_of, exceptions_of}

-- the same category with the same level
abbrev pub is_same_exception : ℕ × Level → ℕ × Level → Bool
is_same_exception = eq_of_both (on (λ e. e.0) ◌==◌) (on (λ e. rank e.1) ◌==◌)

-- the same default and the same exceptions
abbrev pub is_same : Levels → Levels → Bool
is_same = eq_of_both (on (λ L. rank (default_of L)) ◌==◌) (on exceptions_of (pointwise is_same_exception))
