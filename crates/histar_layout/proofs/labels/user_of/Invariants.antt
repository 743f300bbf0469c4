-- The invariants and measures of `user_of` of src/labels.rt.
use Rattle.std.proofs.Common.{◌≡◌, ℕ, ◌+◌, ◌<◌, false}
use Rattle.histar_layout.specs.Categories.{owns}
use Rattle.histar_layout.proofs.labels.user_of.Given as goal

abbrev pub invariant-loop-before : goal.invariant-loop-before
invariant-loop-before l = (k : ℕ) → k < l.before → owns l.own (k + 1) ≡ false
