-- The invariants and measures of `Label::fits_everywhere` of src/labels.rt.
use Rattle.std.proofs.Common.{◌+◌, length}
use Rattle.histar_label.proofs.Fronts.{IsLeft}
use Rattle.histar_label.proofs.labels.Label.fits_everywhere.Given as goal

abbrev pub invariant-categories : goal.invariant-categories
invariant-categories l = IsLeft l.test l.self l.first l.second l.own l.firsts l.seconds

abbrev pub decreases-categories : goal.decreases-categories
decreases-categories l = length l.own + (length l.firsts + length l.seconds)
