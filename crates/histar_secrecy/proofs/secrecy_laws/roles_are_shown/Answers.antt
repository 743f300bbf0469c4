-- Proves the goals of `roles_are_shown` of src/secrecy_laws.rt that the search leaves open.
use Rattle.histar_secrecy.proofs.Learning.{roles_are_shown}
use Rattle.histar_secrecy.proofs.secrecy_laws.roles_are_shown.Goals as goal

pub returns : goal.returns
returns c = roles_are_shown
