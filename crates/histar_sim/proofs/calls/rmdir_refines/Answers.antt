-- Proves the goals of `rmdir_refines` of src/calls.rt that the search leaves open.
use Rattle.histar_sim.proofs.RmdirCall as refined
use Rattle.histar_sim.proofs.calls.rmdir_refines.Goals as goal

pub returns : goal.returns
returns g c = refined.rmdir_refines
