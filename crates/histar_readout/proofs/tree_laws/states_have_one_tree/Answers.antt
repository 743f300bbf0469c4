-- Proves the goals of `states_have_one_tree` of src/tree_laws.rt that the search leaves open.
use Rattle.histar_readout.proofs.OneTree.{states_have_one_tree}
use Rattle.histar_readout.proofs.tree_laws.states_have_one_tree.Goals as goal

pub returns : goal.returns
returns c = states_have_one_tree
