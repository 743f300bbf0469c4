-- Proves the goals of `no_difference_is_the_same` of src/diff_laws.rt that the search leaves open.
use Rattle.histar_diff.proofs.TableLaws.{none_is_the_same}
use Rattle.histar_diff.proofs.diff_laws.no_difference_is_the_same.Goals as goal

pub returns : goal.returns
returns c = none_is_the_same
