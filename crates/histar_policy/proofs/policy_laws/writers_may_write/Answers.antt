-- Proves the goal of `writers_may_write` of src/policy_laws.rt that the search leaves open.
use Rattle.histar_policy.proofs.MayDo.{writers_may_write}
use Rattle.histar_policy.proofs.policy_laws.writers_may_write.Goals as goal

pub returns : goal.returns
returns c = writers_may_write
