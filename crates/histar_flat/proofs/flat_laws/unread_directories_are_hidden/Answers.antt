-- Proves the goals of `unread_directories_are_hidden` of src/flat_laws.rt that the search leaves open.
use Rattle.histar_flat.proofs.Unread.{unread_directories_are_hidden}
use Rattle.histar_flat.proofs.flat_laws.unread_directories_are_hidden.Goals as goal

pub returns : goal.returns
returns c = unread_directories_are_hidden
