-- Proves the goals of `logins_tell` of src/secrecy_laws.rt that the search leaves open.
use Rattle.histar_secrecy.proofs.Telling.{logins_tell}
use Rattle.histar_secrecy.proofs.secrecy_laws.logins_tell.Goals as goal

pub returns : goal.returns
returns c = logins_tell
