-- Proves the goals of `nobody_has_a_job` of src/flat_laws.rt that the search leaves open.
use Rattle.histar_flat.proofs.Jobs.{nobody_has_a_job}
use Rattle.histar_flat.proofs.flat_laws.nobody_has_a_job.Goals as goal

pub returns : goal.returns
returns c = nobody_has_a_job
