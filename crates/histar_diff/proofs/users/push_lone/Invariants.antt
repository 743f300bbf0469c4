-- The invariants and measures of `push_lone` of src/users.rt.
use Rattle.std.proofs.Common.{◌≡◌, ◌++◌, take}
use Rattle.histar_diff.specs.UserTables.{lone_among}
use Rattle.histar_diff.proofs.users.push_lone.Given as goal

abbrev pub invariant-loop-user : goal.invariant-loop-user
invariant-loop-user l = l.lone.items ≡ l.fn.lone.items ++ lone_among l.is_new (take l.user-index l.users) l.others
