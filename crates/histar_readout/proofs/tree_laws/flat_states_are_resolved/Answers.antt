-- Proves the goals of `flat_states_are_resolved` of src/tree_laws.rt that the search leaves open.
use Rattle.histar_readout.proofs.PathsMatched.{flat_states_are_resolved}
use Rattle.histar_readout.proofs.tree_laws.flat_states_are_resolved.Goals as goal

pub returns : goal.returns
returns c = flat_states_are_resolved
