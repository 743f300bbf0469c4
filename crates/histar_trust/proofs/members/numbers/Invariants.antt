-- The invariants and measures of `numbers` of src/members.rt.
use Rattle.std.proofs.Common.{◌≡◌, take}
use Rattle.histar_trust.proofs.members.numbers.Given as goal

abbrev pub invariant-loop-category : goal.invariant-loop-category
invariant-loop-category l = l.numbers.items ≡ take l.category-index l.categories
