-- The jobs of a process, from the own label of its thread.
use Rattle.std.specs.Prelude.{ℕ, Bool, true, false, List, [], ◌∷◌, map}
use Rattle.std.specs.List.{filter}
use Rattle.histar_level.specs.declared.level.Level.{Level}
use Rattle.histar_level.specs.declared.level.Level.TheVariants.{L3}
use Rattle.histar_level.specs.Levels.{Levels, exceptions_of}

-- level 3
abbrev pub is_three : Level → Bool
is_three L3 = true
is_three level = false

-- the categories of the jobs that a process is in: those at 3 in its thread's label
abbrev pub jobs_in : Levels → List ℕ
jobs_in own = map (λ e. e.0) (filter (λ e. is_three e.1) (exceptions_of own))

-- the list has no categories
abbrev pub is_empty : List ℕ → Bool
is_empty [] = true
is_empty (c ∷ cs) = false
