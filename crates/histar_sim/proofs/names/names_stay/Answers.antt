-- Proves the goals of `names_stay` of src/names.rt that the search leaves open.
use Rattle.histar_sim.proofs.StayingNames as names
use Rattle.histar_sim.proofs.names.names_stay.Goals as goal

pub returns : goal.returns
returns c = names.names_stay
