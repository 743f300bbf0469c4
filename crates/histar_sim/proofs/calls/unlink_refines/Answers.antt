-- Proves the goals of `unlink_refines` of src/calls.rt that the search leaves open.
use Rattle.histar_sim.proofs.UnlinkCall as refined
use Rattle.histar_sim.proofs.calls.unlink_refines.Goals as goal

pub returns : goal.returns
returns g c = refined.unlink_refines
