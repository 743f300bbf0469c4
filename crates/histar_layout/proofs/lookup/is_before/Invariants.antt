-- The invariants and measures of `is_before` of src/lookup.rt.
use Rattle.std.proofs.Common.{◌≡◌, ℕ, ◌+◌, ◌<◌, ◌≤◌, length, get_or}
use Rattle.histar_layout.proofs.lookup.is_before.Given as goal

abbrev pub invariant-bytes : goal.invariant-bytes
invariant-bytes l =
    (l.left ≤ length l.name)
    × ((k : ℕ) → l.left ≤ k → k < length l.name → get_or l.name k 0 ≡ get_or l.bytes (l.start + k) 0)

abbrev pub decreases-bytes : goal.decreases-bytes
decreases-bytes l = l.left
