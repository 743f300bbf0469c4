-- Proves the goals of `paths_lead_to_one_target` of src/tree_laws.rt that the search leaves open.
use Rattle.histar_readout.proofs.OneTarget.{paths_lead_to_one_target}
use Rattle.histar_readout.proofs.tree_laws.paths_lead_to_one_target.Goals as goal

pub returns : goal.returns
returns c = paths_lead_to_one_target
