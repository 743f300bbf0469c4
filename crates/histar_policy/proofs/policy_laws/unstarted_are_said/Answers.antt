-- Proves the goal of `unstarted_are_said` of src/policy_laws.rt that the search leaves open.
use Rattle.histar_policy.proofs.Unstarted.{unstarted_are_said}
use Rattle.histar_policy.proofs.policy_laws.unstarted_are_said.Goals as goal

pub returns : goal.returns
returns c = unstarted_are_said
