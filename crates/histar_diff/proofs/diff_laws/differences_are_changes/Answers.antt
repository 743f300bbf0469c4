-- Proves the goals of `differences_are_changes` of src/diff_laws.rt that the search leaves open.
use Rattle.histar_diff.proofs.Changes.{differences_are_changes}
use Rattle.histar_diff.proofs.diff_laws.differences_are_changes.Goals as goal

pub returns : goal.returns
returns c = differences_are_changes
