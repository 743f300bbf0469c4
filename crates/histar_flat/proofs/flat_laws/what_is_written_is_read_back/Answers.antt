-- Proves the goals of `what_is_written_is_read_back` of src/flat_laws.rt that the search leaves open.
use Rattle.histar_flat.proofs.Writing.{written_is_read}
use Rattle.histar_flat.proofs.flat_laws.what_is_written_is_read_back.Goals as goal

pub returns : goal.returns
returns c = written_is_read
