-- Proves the goals of `logins_tell_here` of src/secrecy_laws.rt that the search leaves open.
use Rattle.histar_secrecy.proofs.Telling.{logins_tell_here}
use Rattle.histar_secrecy.proofs.secrecy_laws.logins_tell_here.Goals as goal

pub returns : goal.returns
returns c = logins_tell_here
