-- Proves the goals of `user_differences_are_changes` of src/diff_laws.rt that the search leaves open.
use Rattle.histar_diff.proofs.UsersShown.{user_differences_are_changes}
use Rattle.histar_diff.proofs.diff_laws.user_differences_are_changes.Goals as goal

pub returns : goal.returns
returns c = user_differences_are_changes
