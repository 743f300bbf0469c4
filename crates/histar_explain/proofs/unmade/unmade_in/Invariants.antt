-- The invariants and measures of `unmade_in` of src/unmade.rt.
use Rattle.std.proofs.Common.{◌+◌, length}
use Rattle.histar_explain.proofs.UnmadePasses.{IsPassed}
use Rattle.histar_explain.proofs.unmade.unmade_in.Given as goal

abbrev pub invariant-categories : goal.invariant-categories
invariant-categories l = IsPassed l.next l.first l.second l.third l.firsts l.seconds l.thirds l.unmade.items

abbrev pub decreases-categories : goal.decreases-categories
decreases-categories l = length l.firsts + length l.seconds + length l.thirds
