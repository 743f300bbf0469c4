-- Proves the goals of `create_refines` of src/calls.rt that the search leaves open.
use Rattle.histar_sim.proofs.Create as refined
use Rattle.histar_sim.proofs.calls.create_refines.Goals as goal

pub returns : goal.returns
returns g c = refined.create_refines
