-- Proves the goals of `threads_modify_what_is_written` of src/refinement_laws.rt that the search leaves open.
use Rattle.histar_refinement.proofs.ClassLaws.{modifies_path}
use Rattle.histar_refinement.proofs.refinement_laws.threads_modify_what_is_written.Goals as goal

pub returns : goal.returns
returns c = λ accounts s f l ok me p t runs q there o at agrees. modifies_path accounts s f l ok me p runs.0 runs.1 t runs.2 q there at o agrees
