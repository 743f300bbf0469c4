-- Proves the goals of `gains_are_listed` of src/diff_laws.rt that the search leaves open.
use Rattle.histar_diff.proofs.Changes.{gains_are_listed}
use Rattle.histar_diff.proofs.diff_laws.gains_are_listed.Goals as goal

pub returns : goal.returns
returns c = gains_are_listed
