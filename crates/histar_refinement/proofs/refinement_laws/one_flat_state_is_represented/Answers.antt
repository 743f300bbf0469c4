-- Proves the goals of `one_flat_state_is_represented` of src/refinement_laws.rt that the search leaves open.
use Rattle.histar_refinement.proofs.OneFlatState.{same_files, same_processes}
use Rattle.histar_refinement.proofs.refinement_laws.one_flat_state_is_represented.Goals as goal

pub returns : goal.returns
returns c =
    λ accounts s f g l m one_naming. (
      same_files accounts s f g l.matched m.matched one_naming,
      same_processes accounts s f g l.matched m.matched
          one_naming,
    )
