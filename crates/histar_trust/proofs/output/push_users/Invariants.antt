-- The invariants and measures of `push_users` of src/output.rt.
use Rattle.std.proofs.Common.{◌≡◌, ◌++◌, take}
use Rattle.histar_trust.specs.TrustText.{user_lines}
use Rattle.histar_trust.proofs.output.push_users.Given as goal

abbrev pub invariant-loop-user : goal.invariant-loop-user
invariant-loop-user l = l.text.items ≡ l.fn.text.items ++ user_lines l.word (take l.user-index l.users)
