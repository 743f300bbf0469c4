-- Proves the goals of `only_listed_observe` of src/trust_laws.rt that the search leaves open.
use Rattle.histar_trust.proofs.Observing.{only_listed_observe}
use Rattle.histar_trust.proofs.trust_laws.only_listed_observe.Goals as goal

pub returns : goal.returns
returns c = only_listed_observe
