-- Proves the goals of `group_bytes_stay_hidden` of src/flat_laws.rt that the search leaves open.
use Rattle.histar_flat.proofs.Secrecy.{group_bytes_stay_hidden}
use Rattle.histar_flat.proofs.flat_laws.group_bytes_stay_hidden.Goals as goal

pub returns : goal.returns
returns c = group_bytes_stay_hidden
