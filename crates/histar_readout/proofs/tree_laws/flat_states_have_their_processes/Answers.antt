-- Proves the goals of `flat_states_have_their_processes` of src/tree_laws.rt that the search leaves open.
use Rattle.histar_readout.proofs.ProcessesMatched.{flat_states_have_their_processes}
use Rattle.histar_readout.proofs.tree_laws.flat_states_have_their_processes.Goals as goal

pub returns : goal.returns
returns c = flat_states_have_their_processes
