-- The invariants and measures of `Label::below_as` of src/labels.rt.
use Rattle.std.proofs.Common.{◌+◌, length}
use Rattle.histar_label.specs.declared.levels.Test.TheVariants.{BelowJoin}
use Rattle.histar_label.proofs.Fronts.{IsLeft}
use Rattle.histar_label.proofs.labels.Label.below_as.Given as goal

abbrev pub invariant-categories : goal.invariant-categories
invariant-categories l = IsLeft (BelowJoin l.reading) l.self l.other l.other l.own l.others l.others

abbrev pub decreases-categories : goal.decreases-categories
decreases-categories l = length l.own + length l.others
