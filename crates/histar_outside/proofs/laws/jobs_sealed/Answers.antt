-- Proves the goals of `jobs_sealed` of src/laws.rt that the search leaves open.
use Rattle.histar_outside.proofs.Sealing.{jobs_sealed}
use Rattle.histar_outside.proofs.laws.jobs_sealed.Goals as goal

pub returns : goal.returns
returns c = jobs_sealed
