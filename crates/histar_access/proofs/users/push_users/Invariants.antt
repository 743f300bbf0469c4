-- The invariants and measures of `push_users` of src/users.rt.
use Rattle.std.proofs.Common.{◌≡◌, ◌++◌, take}
use Rattle.std.specs.List.{flat_map}
use Rattle.histar_rights.specs.Users.{user_text}
use Rattle.histar_access.proofs.users.push_users.Given as goal

abbrev pub invariant-loop-user : goal.invariant-loop-user
invariant-loop-user l = l.text.items ≡ l.fn.text.items ++ flat_map user_text (take l.user-index l.row)
