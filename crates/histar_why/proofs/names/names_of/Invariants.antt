-- The invariants and measures of `names_of` of src/names.rt.
use Rattle.std.proofs.Common.{◌≡◌, map, take}
use Rattle.histar_why.specs.Names.{job_named}
use Rattle.histar_why.proofs.names.names_of.Given as goal

abbrev pub invariant-loop-category : goal.invariant-loop-category
invariant-loop-category l = l.names.items ≡ map (job_named l.births) (take l.category-index l.categories)
