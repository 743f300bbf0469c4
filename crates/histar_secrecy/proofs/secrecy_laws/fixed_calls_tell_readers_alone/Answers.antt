-- Proves the goals of `fixed_calls_tell_readers_alone` of src/secrecy_laws.rt that the search leaves open.
use Rattle.histar_secrecy.proofs.OtherBytes.{fixed_calls_tell_readers_alone}
use Rattle.histar_secrecy.proofs.secrecy_laws.fixed_calls_tell_readers_alone.Goals as goal

pub returns : goal.returns
returns c = fixed_calls_tell_readers_alone
