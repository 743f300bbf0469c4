-- Proves the goals of `the_start_is_represented` of src/refinement_laws.rt that the search leaves open.
use Rattle.histar_refinement.proofs.Start.{start_represents}
use Rattle.histar_refinement.proofs.refinement_laws.the_start_is_represented.Goals as goal

pub returns : goal.returns
returns c = λ accounts some_user declared room. start_represents accounts some_user declared.no_one room
