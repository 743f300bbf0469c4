-- Proves the goals of `each_object_is_reached` of src/refinement_laws.rt that the search leaves open.
use Rattle.histar_refinement.proofs.ReachedObjects.{objects_reached}
use Rattle.histar_refinement.proofs.refinement_laws.each_object_is_reached.Goals as goal

pub returns : goal.returns
returns c = λ accounts s f l. objects_reached accounts s f l.matched
