-- Proves the goals of `power_is_named` of src/trust_laws.rt that the search leaves open.
use Rattle.histar_trust.proofs.ReasonsMeant.{power_is_named}
use Rattle.histar_trust.proofs.trust_laws.power_is_named.Goals as goal

pub returns : goal.returns
returns c = power_is_named
