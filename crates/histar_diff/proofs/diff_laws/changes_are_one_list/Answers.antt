-- Proves the goals of `changes_are_one_list` of src/diff_laws.rt that the search leaves open.
use Rattle.histar_diff.proofs.Changes.{changes_are_one_list}
use Rattle.histar_diff.proofs.diff_laws.changes_are_one_list.Goals as goal

pub returns : goal.returns
returns c = changes_are_one_list
