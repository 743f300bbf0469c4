-- The invariants and measures of `set_each` of src/labels.rt.
use Rattle.std.proofs.Common.{◌≡◌, take}
use Rattle.histar_layout.specs.Labelling.{each_at, with_levels}
use Rattle.histar_layout.proofs.labels.set_each.Given as goal

abbrev pub invariant-loop-category : goal.invariant-loop-category
invariant-loop-category g l = l.label ≡ with_levels l.fn.label (each_at l.level (take l.category-index l.categories))
