-- The invariants and measures of `are_distinct` of src/declarations.rt.
use Rattle.std.proofs.Common.{◌≡◌, length}
use Rattle.histar_script.specs.Reading.{are_distinct}
use Rattle.histar_script.proofs.declarations.are_distinct.Given as goal

abbrev pub invariant-loop-rest : goal.invariant-loop-rest
invariant-loop-rest l = are_distinct l.rest ≡ are_distinct l.names

abbrev pub decreases-loop-rest : goal.decreases-loop-rest
decreases-loop-rest l = length l.rest
