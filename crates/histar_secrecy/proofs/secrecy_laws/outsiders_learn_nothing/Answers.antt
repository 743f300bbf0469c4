-- Proves the goals of `outsiders_learn_nothing` of src/secrecy_laws.rt that the search leaves open.
use Rattle.histar_secrecy.proofs.Learning.{outsiders_learn_nothing}
use Rattle.histar_secrecy.proofs.secrecy_laws.outsiders_learn_nothing.Goals as goal

pub returns : goal.returns
returns c = outsiders_learn_nothing
