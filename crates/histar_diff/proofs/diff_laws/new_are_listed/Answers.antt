-- Proves the goals of `new_are_listed` of src/diff_laws.rt that the search leaves open.
use Rattle.histar_diff.proofs.Changes.{new_are_listed}
use Rattle.histar_diff.proofs.diff_laws.new_are_listed.Goals as goal

pub returns : goal.returns
returns c = new_are_listed
