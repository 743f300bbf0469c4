-- The invariants and measures of `ends_refused` of src/colours.rt.
use Rattle.std.proofs.Common.{◌≡◌, length}
use Rattle.histar_output.specs.Colours.{ends_refused}
use Rattle.histar_output.proofs.colours.ends_refused.Given as goal

abbrev pub invariant-places : goal.invariant-places
invariant-places l = ends_refused l.text ≡ ends_refused l.rest

abbrev pub decreases-places : goal.decreases-places
decreases-places l = length l.rest
