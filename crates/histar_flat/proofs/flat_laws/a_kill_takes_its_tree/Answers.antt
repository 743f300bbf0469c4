-- Proves the goals of `a_kill_takes_its_tree` of src/flat_laws.rt that the search leaves open.
use Rattle.histar_flat.proofs.ProcessLaws.{kills_take_their_tree}
use Rattle.histar_flat.proofs.flat_laws.a_kill_takes_its_tree.Goals as goal

pub returns : goal.returns
returns c = kills_take_their_tree
