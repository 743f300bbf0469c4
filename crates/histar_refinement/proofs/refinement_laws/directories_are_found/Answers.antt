-- Proves the goals of `directories_are_found` of src/refinement_laws.rt that the search leaves open.
use Rattle.histar_refinement.proofs.LinesMatched.{directory_found, directory_back}
use Rattle.histar_refinement.proofs.refinement_laws.directories_are_found.Goals as goal

pub returns : goal.returns
returns c = λ accounts s f l d c g. (directory_back accounts s f l d c g, λ is. directory_found accounts s f l d c g is.0 is.1 is.2)
