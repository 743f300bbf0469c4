-- The invariants and measures of `users_below` of src/users.rt.
use Rattle.std.proofs.Common.{◌≡◌, take}
use Rattle.std.specs.Prelude.{map}
use Rattle.histar_cells.specs.ByClass.{user_below}
use Rattle.histar_access.proofs.users.users_below.Given as goal

abbrev pub invariant-loop-user : goal.invariant-loop-user
invariant-loop-user l = l.row.items ≡ map (user_below l.users l.class) (take l.user-index l.above)
