-- Proves the goals of `paths_are_a_tree` of src/flat_laws.rt that the search leaves open.
use Rattle.histar_flat.proofs.Trees.{paths_are_a_tree}
use Rattle.histar_flat.proofs.flat_laws.paths_are_a_tree.Goals as goal

pub returns : goal.returns
returns c = paths_are_a_tree
