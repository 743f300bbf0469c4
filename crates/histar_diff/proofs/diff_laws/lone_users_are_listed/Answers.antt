-- Proves the goals of `lone_users_are_listed` of src/diff_laws.rt that the search leaves open.
use Rattle.histar_diff.proofs.UserListing.{lone_users_are_listed}
use Rattle.histar_diff.proofs.diff_laws.lone_users_are_listed.Goals as goal

pub returns : goal.returns
returns c = lone_users_are_listed
