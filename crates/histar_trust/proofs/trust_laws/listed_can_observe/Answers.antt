-- Proves the goals of `listed_can_observe` of src/trust_laws.rt that the search leaves open.
use Rattle.histar_trust.proofs.Observing.{listed_can_observe}
use Rattle.histar_trust.proofs.trust_laws.listed_can_observe.Goals as goal

pub returns : goal.returns
returns c = listed_can_observe
