-- Proves the goals of `no_password_is_lent` of src/refinement_laws.rt that the search leaves open.
use Rattle.histar_refinement.proofs.Lent.{none_left}
use Rattle.histar_refinement.proofs.refinement_laws.no_password_is_lent.Goals as goal

pub returns : goal.returns
returns c = λ accounts s f l. none_left accounts s f l.matched
