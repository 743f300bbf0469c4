-- Proves the goals of `a_wrapped_job_stays_in_its_directory` of src/flat_laws.rt that the search leaves open.
use Rattle.histar_flat.proofs.WrappedJobs.{wrapped_jobs_stay_inside}
use Rattle.histar_flat.proofs.flat_laws.a_wrapped_job_stays_in_its_directory.Goals as goal

pub returns : goal.returns
returns c = wrapped_jobs_stay_inside
