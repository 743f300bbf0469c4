-- Proves the goals of `threads_are_found` of src/refinement_laws.rt that the search leaves open.
use Rattle.histar_refinement.proofs.StatusFound.{thread_led, thread_back}
use Rattle.histar_refinement.proofs.refinement_laws.threads_are_found.Goals as goal

pub returns : goal.returns
returns c =
    λ accounts s f l me t. (
      λ found.
          let x = thread_back accounts s f l me t found in (x.0, (x.1, x.2, x.3)),
      λ runs. thread_led accounts s f l me
          runs.0 t runs.1.0 runs.1.1 runs.1.2,
    )
