-- Proves the goals of `status_refines` of src/calls.rt that the search leaves open.
use Rattle.histar_sim.proofs.StatusCall as refined
use Rattle.histar_sim.proofs.calls.status_refines.Goals as goal

pub returns : goal.returns
returns g c = refined.status_refines
