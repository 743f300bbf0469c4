-- Values at the paths of a list, each computed from the value at its directory.
use Rattle.std.specs.Prelude.{ℕ, List, [], ◌∷◌, ◌++◌, take}

-- the last of a list, or this if it is empty
abbrev pub last_or : {A : Type 0} → A → List A → A
last_or x [] = x
last_or x (y ∷ ys) = last_or y ys

-- The values of a list, each computed from the last value of lesser depth: `way` has the values on the way to the element before, of which
-- those at the directories above are kept.
abbrev pub rows_from : {X A : Type 0} → (X → ℕ) → (X → A → A) → A → List A → List X → List A
rows_from depth below start way [] = []
rows_from depth below start way (x ∷ xs) =
    let above = take (depth x) way in
    let row = below x (last_or start above) in
    row ∷ rows_from depth below start (above ++ row ∷ []) xs
