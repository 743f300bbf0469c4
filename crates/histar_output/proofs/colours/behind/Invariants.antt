-- The invariants and measures of `behind` of src/colours.rt.
use Rattle.std.proofs.Common.{◌≡◌, length}
use Rattle.histar_output.specs.Cuts.{behind}
use Rattle.histar_output.proofs.colours.behind.Given as goal

abbrev pub invariant-places : goal.invariant-places
invariant-places l = behind l.mark l.text ≡ behind l.mark l.rest

abbrev pub decreases-places : goal.decreases-places
decreases-places l = length l.rest
