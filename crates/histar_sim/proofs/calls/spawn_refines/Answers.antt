-- Proves the goals of `spawn_refines` of src/calls.rt that the search leaves open.
use Rattle.histar_sim.proofs.SpawnCall as refined
use Rattle.histar_sim.proofs.calls.spawn_refines.Goals as goal

pub returns : goal.returns
returns g c = refined.spawn_refines
