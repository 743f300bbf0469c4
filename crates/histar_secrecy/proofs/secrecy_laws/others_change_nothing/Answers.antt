-- Proves the goals of `others_change_nothing` of src/secrecy_laws.rt that the search leaves open.
use Rattle.histar_secrecy.proofs.Keeping.{others_change_nothing}
use Rattle.histar_secrecy.proofs.secrecy_laws.others_change_nothing.Goals as goal

pub returns : goal.returns
returns c = others_change_nothing
