-- Proves the goals of `only_trusted_tell` of src/secrecy_laws.rt that the search leaves open.
use Rattle.histar_secrecy.proofs.Telling.{only_trusted_tell}
use Rattle.histar_secrecy.proofs.secrecy_laws.only_trusted_tell.Goals as goal

pub returns : goal.returns
returns c = only_trusted_tell
