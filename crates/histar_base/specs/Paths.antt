-- Equality of names and paths, and the order in which paths are listed. A path is the list of its names, the last one first.
use Rattle.std.specs.Prelude.{ℕ, Bool, nat_eq, List, [], ◌∷◌}
use Rattle.std.specs.declared.cmp.Ordering.{Ordering}
use Rattle.std.specs.Ordering.{nat_cmp}
use Rattle.std.specs.Cmp.Lexicographic.{pointwise, slice_cmp}

-- two names are the same: of files, of users or of processes
abbrev pub same : List ℕ → List ℕ → Bool
same = pointwise nat_eq

-- two paths are the same
abbrev pub same_path : List (List ℕ) → List (List ℕ) → Bool
same_path = pointwise same

-- the second list reversed, in front of the first
abbrev pub reverse_onto : {A : Type 0} → List A → List A → List A
reverse_onto ys [] = ys
reverse_onto ys (x ∷ xs) = reverse_onto (x ∷ ys) xs

-- the names of a path from `/` on
abbrev pub from_root : {A : Type 0} → List A → List A
from_root = reverse_onto []

-- paths are ordered as lists of names from `/` on, and names by their bytes
abbrev pub path_cmp : List (List ℕ) → List (List ℕ) → Ordering
path_cmp p q = slice_cmp (slice_cmp nat_cmp) (from_root p) (from_root q)
