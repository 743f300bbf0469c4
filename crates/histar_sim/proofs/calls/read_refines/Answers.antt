-- Proves the goals of `read_refines` of src/calls.rt that the search leaves open.
use Rattle.histar_sim.proofs.Read as refined
use Rattle.histar_sim.proofs.calls.read_refines.Goals as goal

pub returns : goal.returns
returns g c = refined.read_refines
