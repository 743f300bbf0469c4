-- Proves the goals of `other_bytes_differ` of src/secrecy_laws.rt that the search leaves open.
use Rattle.histar_secrecy.proofs.OtherBytes.{other_bytes_differ}
use Rattle.histar_secrecy.proofs.secrecy_laws.other_bytes_differ.Goals as goal

pub returns : goal.returns
returns c = other_bytes_differ
