-- Proves the goals of `outsiders_learn_as_if_alone` of src/secrecy_laws.rt that the search leaves open.
use Rattle.histar_secrecy.proofs.Learning.{outsiders_learn_as_if_alone}
use Rattle.histar_secrecy.proofs.secrecy_laws.outsiders_learn_as_if_alone.Goals as goal

pub returns : goal.returns
returns c = outsiders_learn_as_if_alone
