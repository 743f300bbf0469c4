-- Proves the goals of `the_directory_of_a_job_is_followed` of src/isolation_laws.rt that the search leaves open.
use Rattle.histar_noninterference.proofs.Followed.{finds_left_out}
use Rattle.histar_noninterference.proofs.isolation_laws.the_directory_of_a_job_is_followed.Goals as goal

pub returns : goal.returns
returns c = finds_left_out
