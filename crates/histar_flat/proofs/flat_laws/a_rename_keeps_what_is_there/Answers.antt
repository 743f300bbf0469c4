-- Proves the goals of `a_rename_keeps_what_is_there` of src/flat_laws.rt that the search leaves open.
use Rattle.histar_flat.proofs.FileChanges.{renames_keep_what_is_there}
use Rattle.histar_flat.proofs.flat_laws.a_rename_keeps_what_is_there.Goals as goal

pub returns : goal.returns
returns c = renames_keep_what_is_there
