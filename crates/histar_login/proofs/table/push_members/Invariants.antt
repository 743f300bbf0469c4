-- The invariants and measures of `push_members` of src/table.rt.
use Rattle.std.proofs.Common.{◌≡◌, ◌++◌, take}
use Rattle.histar_programs.specs.Start.{numbers_among}
use Rattle.histar_login.proofs.table.push_members.Given as goal

abbrev pub invariant-loop-i : goal.invariant-loop-i
invariant-loop-i g l = l.table.items ≡ l.initial.table.items ++ numbers_among 1 (take l.i l.users) l.group.members
