-- Proves the goals of `wraps_start_jobs` of src/laws.rt that the search leaves open.
use Rattle.histar_outside.proofs.JobsBegin.{wraps_start_jobs}
use Rattle.histar_outside.proofs.laws.wraps_start_jobs.Goals as goal

pub returns : goal.returns
returns c = wraps_start_jobs
