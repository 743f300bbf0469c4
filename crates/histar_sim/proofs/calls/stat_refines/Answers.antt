-- Proves the goals of `stat_refines` of src/calls.rt that the search leaves open.
use Rattle.histar_sim.proofs.StatCall as refined
use Rattle.histar_sim.proofs.calls.stat_refines.Goals as goal

pub returns : goal.returns
returns g c = refined.stat_refines
