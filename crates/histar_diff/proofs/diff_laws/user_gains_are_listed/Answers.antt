-- Proves the goals of `user_gains_are_listed` of src/diff_laws.rt that the search leaves open.
use Rattle.histar_diff.proofs.UserListing.{user_gains_are_listed}
use Rattle.histar_diff.proofs.diff_laws.user_gains_are_listed.Goals as goal

pub returns : goal.returns
returns c = user_gains_are_listed
