-- Proves the goals of `who_is_gone_stays_gone` of src/flat_laws.rt that the search leaves open.
use Rattle.histar_flat.proofs.ProcessLaws.{gone_stay_gone}
use Rattle.histar_flat.proofs.flat_laws.who_is_gone_stays_gone.Goals as goal

pub returns : goal.returns
returns c = gone_stay_gone
