-- Proves the goals of `differences_are_one_list` of src/diff_laws.rt that the search leaves open.
use Rattle.histar_diff.proofs.TableLaws.{differences_are_one_list}
use Rattle.histar_diff.proofs.diff_laws.differences_are_one_list.Goals as goal

pub returns : goal.returns
returns c = differences_are_one_list
