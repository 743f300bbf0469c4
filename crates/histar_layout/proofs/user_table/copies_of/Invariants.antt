-- The invariants and measures of `copies_of` of src/user_table.rt.
use Rattle.std.proofs.Common.{◌≡◌, take}
use Rattle.histar_layout.proofs.user_table.copies_of.Given as goal

abbrev pub invariant-loop-group : goal.invariant-loop-group
invariant-loop-group g l = l.copies.items ≡ take l.group-index l.groups
