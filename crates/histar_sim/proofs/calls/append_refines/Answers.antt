-- Proves the goals of `append_refines` of src/calls.rt that the search leaves open.
use Rattle.histar_sim.proofs.Append as refined
use Rattle.histar_sim.proofs.calls.append_refines.Goals as goal

pub returns : goal.returns
returns g c = refined.append_refines
