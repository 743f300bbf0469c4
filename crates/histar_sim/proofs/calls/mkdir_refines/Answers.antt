-- Proves the goals of `mkdir_refines` of src/calls.rt that the search leaves open.
use Rattle.histar_sim.proofs.Mkdir as refined
use Rattle.histar_sim.proofs.calls.mkdir_refines.Goals as goal

pub returns : goal.returns
returns g c = refined.mkdir_refines
