-- Proves the goals of `kill_refines` of src/calls.rt that the search leaves open.
use Rattle.histar_sim.proofs.KillCall as refined
use Rattle.histar_sim.proofs.calls.kill_refines.Goals as goal

pub returns : goal.returns
returns g c = refined.kill_refines
