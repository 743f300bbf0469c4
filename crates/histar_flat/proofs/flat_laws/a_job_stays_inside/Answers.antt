-- Proves the goals of `a_job_stays_inside` of src/flat_laws.rt that the search leaves open.
use Rattle.histar_flat.proofs.JobLaws.{jobs_stay_inside}
use Rattle.histar_flat.proofs.flat_laws.a_job_stays_inside.Goals as goal

pub returns : goal.returns
returns c = jobs_stay_inside
