-- Proves the goals of `list_refines` of src/calls.rt that the search leaves open.
use Rattle.histar_sim.proofs.ListCall as refined
use Rattle.histar_sim.proofs.calls.list_refines.Goals as goal

pub returns : goal.returns
returns g c = refined.list_refines
