-- The invariants and measures of `names_in` of src/users_rights.rt.
use Rattle.std.proofs.Common.{◌≡◌, take}
use Rattle.std.specs.Prelude.{map}
use Rattle.histar_access.specs.Users.{name_of}
use Rattle.histar_access.proofs.users_rights.names_in.Given as goal

abbrev pub invariant-loop-user : goal.invariant-loop-user
invariant-loop-user l = l.names.items ≡ map name_of (take l.user-index l.row)
