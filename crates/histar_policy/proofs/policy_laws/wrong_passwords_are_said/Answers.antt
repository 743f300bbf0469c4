-- Proves the goal of `wrong_passwords_are_said` of src/policy_laws.rt that the search leaves open.
use Rattle.histar_policy.proofs.WrongPasswords.{wrong_passwords_are_said}
use Rattle.histar_policy.proofs.policy_laws.wrong_passwords_are_said.Goals as goal

pub returns : goal.returns
returns c = wrong_passwords_are_said
