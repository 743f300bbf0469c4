-- Proves the goals of `callers_are_found` of src/refinement_laws.rt that the search leaves open.
use Rattle.histar_refinement.proofs.CallerFound as law
use Rattle.histar_refinement.proofs.refinement_laws.callers_are_found.Goals as goal

pub returns : goal.returns
returns c = law.callers_are_found
