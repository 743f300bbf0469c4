-- Proves the goals of `one_directory` of src/directory.rt that the search leaves open.
use Rattle.histar_layout.proofs.DirectoryLemmas.{same_directory}
use Rattle.histar_layout.proofs.directory.one_directory.Goals as goal

pub returns : goal.returns
returns c = same_directory
