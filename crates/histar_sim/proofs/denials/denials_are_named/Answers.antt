-- Proves the goals of `denials_are_named` of src/denials.rt that the search leaves open.
use Rattle.histar_sim.proofs.DeniedOnes as named
use Rattle.histar_sim.proofs.denials.denials_are_named.Goals as goal

pub returns : goal.returns
returns c = named.denials_are_named
