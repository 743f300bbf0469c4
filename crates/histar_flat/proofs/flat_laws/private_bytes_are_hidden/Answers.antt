-- Proves the goals of `private_bytes_are_hidden` of src/flat_laws.rt that the search leaves open.
use Rattle.histar_flat.proofs.Secrecy.{private_bytes_are_hidden}
use Rattle.histar_flat.proofs.flat_laws.private_bytes_are_hidden.Goals as goal

pub returns : goal.returns
returns c = private_bytes_are_hidden
