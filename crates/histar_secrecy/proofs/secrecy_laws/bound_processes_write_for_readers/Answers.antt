-- Proves the goals of `bound_processes_write_for_readers` of src/secrecy_laws.rt that the search leaves open.
use Rattle.histar_secrecy.proofs.Readers.{bound_write_for_readers}
use Rattle.histar_secrecy.proofs.secrecy_laws.bound_processes_write_for_readers.Goals as goal

pub returns : goal.returns
returns c = bound_write_for_readers
