-- The invariants and measures of `rights_of_these` of src/takers.rt.
use Rattle.std.proofs.Common.{take}
use Rattle.histar_policy.specs.Answers.{AreRightsOfThese}
use Rattle.histar_policy.proofs.takers.rights_of_these.Given as goal

abbrev pub invariant-loop-user : goal.invariant-loop-user
invariant-loop-user g l = AreRightsOfThese l.machine l.path (take l.user-index l.users) l.all.items
