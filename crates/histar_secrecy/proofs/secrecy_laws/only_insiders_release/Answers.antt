-- Proves the goals of `only_insiders_release` of src/secrecy_laws.rt that the search leaves open.
use Rattle.histar_secrecy.proofs.Released.{only_insiders_release}
use Rattle.histar_secrecy.proofs.secrecy_laws.only_insiders_release.Goals as goal

pub returns : goal.returns
returns c = only_insiders_release
