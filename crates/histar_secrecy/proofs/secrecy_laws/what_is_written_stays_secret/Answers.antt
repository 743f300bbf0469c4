-- Proves the goals of `what_is_written_stays_secret` of src/secrecy_laws.rt that the search leaves open.
use Rattle.histar_secrecy.proofs.WrittenSecrets.{what_is_written_stays_secret}
use Rattle.histar_secrecy.proofs.secrecy_laws.what_is_written_stays_secret.Goals as goal

pub returns : goal.returns
returns c = what_is_written_stays_secret
