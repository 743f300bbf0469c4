-- Proves the goals of `readers_tell_by_ending` of src/secrecy_laws.rt that the search leaves open.
use Rattle.histar_secrecy.proofs.Telling.{readers_tell_by_ending}
use Rattle.histar_secrecy.proofs.secrecy_laws.readers_tell_by_ending.Goals as goal

pub returns : goal.returns
returns c = readers_tell_by_ending
