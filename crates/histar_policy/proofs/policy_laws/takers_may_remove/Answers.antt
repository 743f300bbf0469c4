-- Proves the goal of `takers_may_remove` of src/policy_laws.rt that the search leaves open.
use Rattle.histar_policy.proofs.MayDo.{takers_may_remove}
use Rattle.histar_policy.proofs.policy_laws.takers_may_remove.Goals as goal

pub returns : goal.returns
returns c = takers_may_remove
