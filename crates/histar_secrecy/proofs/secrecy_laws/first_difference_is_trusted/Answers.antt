-- Proves the goals of `first_difference_is_trusted` of src/secrecy_laws.rt that the search leaves open.
use Rattle.histar_secrecy.proofs.Released.{first_difference_is_trusted}
use Rattle.histar_secrecy.proofs.secrecy_laws.first_difference_is_trusted.Goals as goal

pub returns : goal.returns
returns c = first_difference_is_trusted
