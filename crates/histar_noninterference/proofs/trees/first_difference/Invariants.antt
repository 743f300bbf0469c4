-- The invariants and measures of `first_difference` of src/trees.rt.
use Rattle.std.proofs.Common.{◌≡◌, ◌+◌, length}
use Rattle.histar_noninterference.specs.Trees.{first_difference, is_below_either}
use Rattle.histar_noninterference.proofs.trees.first_difference.Given as goal

abbrev pub invariant-loop-rest : goal.invariant-loop-rest
invariant-loop-rest l =
    first_difference (is_below_either l.directory l.other) l.rest l.other_rest
    ≡ first_difference (is_below_either l.directory l.other) l.lines l.others

abbrev pub decreases-loop-rest : goal.decreases-loop-rest
decreases-loop-rest l = length l.rest + length l.other_rest
