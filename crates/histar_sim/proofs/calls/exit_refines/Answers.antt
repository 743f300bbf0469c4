-- Proves the goals of `exit_refines` of src/calls.rt that the search leaves open.
use Rattle.histar_sim.proofs.ExitCall as refined
use Rattle.histar_sim.proofs.calls.exit_refines.Goals as goal

pub returns : goal.returns
returns g c = refined.exit_refines
