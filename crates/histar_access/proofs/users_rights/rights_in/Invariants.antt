-- The invariants and measures of `rights_in` of src/users_rights.rt.
use Rattle.std.proofs.Common.{◌≡◌, take}
use Rattle.std.specs.Prelude.{map}
use Rattle.histar_access.specs.Users.{rights_held}
use Rattle.histar_access.proofs.users_rights.rights_in.Given as goal

abbrev pub invariant-loop-user : goal.invariant-loop-user
invariant-loop-user l = l.rights.items ≡ map rights_held (take l.user-index l.row)
