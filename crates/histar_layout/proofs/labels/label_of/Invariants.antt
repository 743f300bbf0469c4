-- The invariants and measures of `label_of` of src/labels.rt.
use Rattle.std.proofs.Common.{◌≡◌, take}
use Rattle.histar_layout.specs.Labelling.{labelled}
use Rattle.histar_layout.proofs.labels.label_of.Given as goal

abbrev pub invariant-loop-category : goal.invariant-loop-category
invariant-loop-category g l = l.label ≡ labelled (take l.category-index l.exceptions) l.fn.default
