-- Proves the goals of `listed_are_knowers` of src/trust_laws.rt that the search leaves open.
use Rattle.histar_trust.proofs.Observing.{listed_are_knowers}
use Rattle.histar_trust.proofs.trust_laws.listed_are_knowers.Goals as goal

pub returns : goal.returns
returns c = listed_are_knowers
