-- Proves the goals of `wrap_refines` of src/calls.rt that the search leaves open.
use Rattle.histar_sim.proofs.WrapCall as calls
use Rattle.histar_sim.proofs.calls.wrap_refines.Goals as goal

pub returns : goal.returns
returns g c = calls.wrap_refines
