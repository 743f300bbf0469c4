-- Proves the goals of `write_refines` of src/calls.rt that the search leaves open.
use Rattle.histar_sim.proofs.Write as refined
use Rattle.histar_sim.proofs.calls.write_refines.Goals as goal

pub returns : goal.returns
returns g c = refined.write_refines
