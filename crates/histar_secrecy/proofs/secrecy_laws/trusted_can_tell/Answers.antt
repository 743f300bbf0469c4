-- Proves the goals of `trusted_can_tell` of src/secrecy_laws.rt that the search leaves open.
use Rattle.histar_secrecy.proofs.Telling.{trusted_can_tell}
use Rattle.histar_secrecy.proofs.secrecy_laws.trusted_can_tell.Goals as goal

pub returns : goal.returns
returns c = trusted_can_tell
