-- Proves the goals of `a_call_changes_its_own_tree` of src/flat_laws.rt that the search leaves open.
use Rattle.histar_flat.proofs.JobLaws.{calls_change_their_own_tree}
use Rattle.histar_flat.proofs.flat_laws.a_call_changes_its_own_tree.Goals as goal

pub returns : goal.returns
returns c = calls_change_their_own_tree
