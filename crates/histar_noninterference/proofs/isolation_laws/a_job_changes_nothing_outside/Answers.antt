-- Proves the goals of `a_job_changes_nothing_outside` of src/isolation_laws.rt that the search leaves open.
use Rattle.histar_noninterference.proofs.Isolated.{isolates_jobs}
use Rattle.histar_noninterference.proofs.isolation_laws.a_job_changes_nothing_outside.Goals as goal

pub returns : goal.returns
returns c = isolates_jobs
