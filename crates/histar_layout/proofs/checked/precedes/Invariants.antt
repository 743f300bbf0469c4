-- What the loop of `precedes` of src/checked.rt keeps: the rests of the names compare as the names.
use Rattle.std.proofs.Common.{◌≡◌, length}
use Rattle.std.specs.Cmp.Lexicographic.{slice_cmp}
use Rattle.std.specs.Ordering.{nat_cmp}
use Rattle.histar_layout.proofs.checked.precedes.Given as goal

abbrev pub invariant-bytes : goal.invariant-bytes
invariant-bytes l = slice_cmp nat_cmp l.first l.second ≡ slice_cmp nat_cmp l.left l.right

abbrev pub decreases-bytes : goal.decreases-bytes
decreases-bytes l = length l.left
