-- Proves the goals of `job_is_named` of src/trust_laws.rt that the search leaves open.
use Rattle.histar_trust.proofs.ReasonsMeant.{job_is_named}
use Rattle.histar_trust.proofs.trust_laws.job_is_named.Goals as goal

pub returns : goal.returns
returns c = job_is_named
