-- The invariants and measures of `push_users` of src/files.rt.
use Rattle.std.proofs.Common.{◌≡◌, ◌++◌, take}
use Rattle.std.specs.List.{flat_map}
use Rattle.histar_trust.specs.Secrets.{user_mark}
use Rattle.histar_trust.proofs.files.push_users.Given as goal

abbrev pub invariant-loop-user : goal.invariant-loop-user
invariant-loop-user l = l.text.items ≡ l.fn.text.items ++ flat_map (user_mark l.word) (take l.user-index l.users)
