-- Proves the goals of `a_private_file_stays_with_others` of src/flat_laws.rt that the search leaves open.
use Rattle.histar_flat.proofs.PrivateFiles.{private_file_stays}
use Rattle.histar_flat.proofs.flat_laws.a_private_file_stays_with_others.Goals as goal

pub returns : goal.returns
returns c f tree q owner bytes there = private_file_stays f q owner bytes there tree
