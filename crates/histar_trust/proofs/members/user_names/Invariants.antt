-- The invariants and measures of `user_names` of src/members.rt.
use Rattle.std.proofs.Common.{◌≡◌, take}
use Rattle.histar_trust.specs.Findings.{names_of}
use Rattle.histar_trust.proofs.members.user_names.Given as goal

abbrev pub invariant-loop-place : goal.invariant-loop-place
invariant-loop-place l = l.names.items ≡ take l.place (names_of l.users)
