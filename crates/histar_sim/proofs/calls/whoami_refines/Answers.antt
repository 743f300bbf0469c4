-- Proves the goals of `whoami_refines` of src/calls.rt that the search leaves open.
use Rattle.histar_sim.proofs.Whoami as refined
use Rattle.histar_sim.proofs.calls.whoami_refines.Goals as goal

pub returns : goal.returns
returns g c = refined.whoami_refines
