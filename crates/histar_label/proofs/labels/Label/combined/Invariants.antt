-- The invariants and measures of `Label::combined` of src/labels.rt.
use Rattle.std.proofs.Common.{◌+◌, length}
use Rattle.histar_label.proofs.CombiningPass.{IsCombined}
use Rattle.histar_label.proofs.labels.Label.combined.Given as goal

abbrev pub invariant-categories : goal.invariant-categories
invariant-categories g l = IsCombined l.by l.self l.other l.default l.exceptions.items l.own_left l.other_left

abbrev pub decreases-categories : goal.decreases-categories
decreases-categories g l = length l.own_left + length l.other_left
