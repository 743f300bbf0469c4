-- Proves the goals of `knowers_see` of src/secrecy_laws.rt that the search leaves open.
use Rattle.histar_secrecy.proofs.Knowers.{knowers_see}
use Rattle.histar_secrecy.proofs.secrecy_laws.knowers_see.Goals as goal

pub returns : goal.returns
returns c = knowers_see
