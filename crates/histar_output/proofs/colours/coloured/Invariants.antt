-- The invariants and measures of `coloured` of src/colours.rt.
use Rattle.std.proofs.Common.{◌≡◌, ◌++◌, length}
use Rattle.histar_output.specs.Colours.{coloured}
use Rattle.histar_output.proofs.colours.coloured.Given as goal

abbrev pub invariant-lines : goal.invariant-lines
invariant-lines l = coloured l.text ≡ l.out.items ++ coloured l.rest

abbrev pub decreases-lines : goal.decreases-lines
decreases-lines l = length l.rest
