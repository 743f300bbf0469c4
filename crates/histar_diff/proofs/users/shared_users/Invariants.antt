-- The invariants and measures of `shared_users` of src/users.rt.
use Rattle.std.proofs.Common.{◌≡◌, take}
use Rattle.std.specs.List.{filter_map}
use Rattle.histar_diff.specs.UserTables.{shared_user}
use Rattle.histar_diff.proofs.users.shared_users.Given as goal

abbrev pub invariant-loop-user : goal.invariant-loop-user
invariant-loop-user l = l.shared.items ≡ filter_map (shared_user l.old l.new) (take l.user-index l.old)
