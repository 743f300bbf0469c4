-- Proves the goal of `lone_writers_are_said` of src/policy_laws.rt that the search leaves open.
use Rattle.histar_policy.proofs.LoneWriters.{lone_writers_are_said}
use Rattle.histar_policy.proofs.policy_laws.lone_writers_are_said.Goals as goal

pub returns : goal.returns
returns c = lone_writers_are_said
