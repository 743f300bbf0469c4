-- Proves the goals of `rmtree_refines` of src/calls.rt that the search leaves open.
use Rattle.histar_sim.proofs.RmtreeCall as refined
use Rattle.histar_sim.proofs.calls.rmtree_refines.Goals as goal

pub returns : goal.returns
returns g c = refined.rmtree_refines
