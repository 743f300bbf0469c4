-- The invariants and measures of `push_users` of src/users_texts.rt.
use Rattle.std.proofs.Common.{◌≡◌, ◌++◌, take}
use Rattle.std.specs.List.{flat_map}
use Rattle.histar_ever.specs.GatheringUsers.{gathered_user}
use Rattle.histar_ever.proofs.users_texts.push_users.Given as goal

abbrev pub invariant-loop-user : goal.invariant-loop-user
invariant-loop-user l = l.text.items ≡ l.fn.text.items ++ flat_map (gathered_user l.ever.letters l.path) (take l.user-index l.users)
