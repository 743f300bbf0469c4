-- Proves the goals of `trust_is_least` of src/secrecy_laws.rt that the search leaves open.
use Rattle.histar_secrecy.proofs.Telling.{trust_is_least}
use Rattle.histar_secrecy.proofs.secrecy_laws.trust_is_least.Goals as goal

pub returns : goal.returns
returns c = trust_is_least
