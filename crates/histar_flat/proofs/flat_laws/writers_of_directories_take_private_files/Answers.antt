-- Proves the goals of `writers_of_directories_take_private_files` of src/flat_laws.rt that the search leaves open.
use Rattle.histar_flat.proofs.FileChanges.{writers_take_private_files}
use Rattle.histar_flat.proofs.flat_laws.writers_of_directories_take_private_files.Goals as goal

pub returns : goal.returns
returns c = writers_take_private_files
