-- The invariants and measures of `owners_among` of src/owners.rt.
use Rattle.std.proofs.Common.{◌≡◌, take}
use Rattle.histar_layout.specs.Categories.{owners_among}
use Rattle.histar_layout.proofs.owners.owners_among.Given as goal

abbrev pub invariant-loop-k : goal.invariant-loop-k
invariant-loop-k g l = l.owners.items ≡ owners_among l.fn.users (take l.k l.groups) l.fn.number l.fn.name
