-- Proves the goals of `programs_learn_nothing` of src/secrecy_laws.rt that the search leaves open.
use Rattle.histar_secrecy.proofs.Programs.{programs_learn_nothing}
use Rattle.histar_secrecy.proofs.secrecy_laws.programs_learn_nothing.Goals as goal

pub returns : goal.returns
returns c = programs_learn_nothing
