-- How much a heap is asked for at once.
use Rattle.std.specs.Prelude.{ℕ, ◌*◌, ◌^◌, ◌≤◌}

-- Items take 4 GB at most: so many, of so many bytes each.
abbrev pub IsInBounds : ℕ → ℕ → Type 0
IsInBounds count size = count * size ≤ 2 ^ 32
