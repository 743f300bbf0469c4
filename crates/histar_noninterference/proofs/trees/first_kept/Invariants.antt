-- The invariants and measures of `first_kept` of src/trees.rt.
use Rattle.std.proofs.Common.{◌≡◌, length}
use Rattle.histar_noninterference.specs.Trees.{first_kept, is_below_either}
use Rattle.histar_noninterference.proofs.trees.first_kept.Given as goal

abbrev pub invariant-loop-rest : goal.invariant-loop-rest
invariant-loop-rest l = first_kept (is_below_either l.directory l.other) l.rest ≡ first_kept (is_below_either l.directory l.other) l.lines

abbrev pub decreases-loop-rest : goal.decreases-loop-rest
decreases-loop-rest l = length l.rest
