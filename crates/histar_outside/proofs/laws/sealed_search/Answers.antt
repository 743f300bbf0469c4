-- Proves the goals of `sealed_search` of src/laws.rt that the search leaves open.
use Rattle.histar_outside.proofs.Sealing.{sealed_search}
use Rattle.histar_outside.proofs.laws.sealed_search.Goals as goal

pub returns : goal.returns
returns c = sealed_search
