-- Proves the goals of `a_job_reads_as_its_user` of src/flat_laws.rt that the search leaves open.
use Rattle.histar_flat.proofs.JobLaws.{jobs_read_as_their_user}
use Rattle.histar_flat.proofs.flat_laws.a_job_reads_as_its_user.Goals as goal

pub returns : goal.returns
returns c = jobs_read_as_their_user
