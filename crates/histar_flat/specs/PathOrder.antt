-- What lies below a path or a process, and what is above it.
use Rattle.std.specs.Prelude.{Bool, false, ◌||◌, nat_eq, List, [], ◌∷◌}
use Rattle.std.specs.Cmp.Lexicographic.{pointwise}
use Rattle.histar_base.specs.Paths.{same}
use Rattle.histar_flat.specs.Words.{Path, ProcName}

-- the second list is the first one, or has it as its end: it lies below
abbrev pub is_under : {A : Type 0} → (A → A → Bool) → List A → List A → Bool
is_under equal above [] = pointwise equal above []
is_under equal above (n ∷ q) = pointwise equal above (n ∷ q) || is_under equal above q

-- the path is `above`, or lies below it
abbrev pub under_path : Path → Path → Bool
under_path = is_under same

-- the path lies below `above`
abbrev pub below_path : Path → Path → Bool
below_path above [] = false
below_path above (n ∷ d) = under_path above d

-- the process is `above`, or below it
abbrev pub under_process : ProcName → ProcName → Bool
under_process = is_under nat_eq

-- the path or the process above; `/` and process 0 have themselves
abbrev pub parent : {A : Type 0} → List A → List A
parent [] = []
parent (n ∷ d) = d
