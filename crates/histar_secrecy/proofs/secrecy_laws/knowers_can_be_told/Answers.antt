-- Proves the goals of `knowers_can_be_told` of src/secrecy_laws.rt that the search leaves open.
use Rattle.histar_secrecy.proofs.Knowers.{knowers_can_be_told}
use Rattle.histar_secrecy.proofs.secrecy_laws.knowers_can_be_told.Goals as goal

pub returns : goal.returns
returns c = knowers_can_be_told
