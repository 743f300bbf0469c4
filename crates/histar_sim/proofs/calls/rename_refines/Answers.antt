-- Proves the goals of `rename_refines` of src/calls.rt that the search leaves open.
use Rattle.histar_sim.proofs.RenameCall as refined
use Rattle.histar_sim.proofs.calls.rename_refines.Goals as goal

pub returns : goal.returns
returns g c = refined.rename_refines
