-- Proves the goals of `only_knowers_are_told` of src/secrecy_laws.rt that the search leaves open.
use Rattle.histar_secrecy.proofs.Flowing.{only_knowers_are_told}
use Rattle.histar_secrecy.proofs.secrecy_laws.only_knowers_are_told.Goals as goal

pub returns : goal.returns
returns c = only_knowers_are_told
