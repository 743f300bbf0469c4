-- The invariants and measures of `with_writing` of src/kin.rt.
use Rattle.std.proofs.Common.{◌≡◌, ◌++◌, map, take}
use Rattle.histar_layout.specs.Categories.{write_category}
use Rattle.histar_programs.proofs.kin.with_writing.Given as goal

abbrev pub invariant-loop-owner : goal.invariant-loop-owner
invariant-loop-owner g l = l.made.items ≡ l.fn.categories.items ++ map write_category (take l.owner-index l.owners)
