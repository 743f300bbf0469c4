-- Proves the goals of `user_changes_rise` of src/diff_laws.rt that the search leaves open.
use Rattle.histar_diff.proofs.UserOrder.{user_changes_rise}
use Rattle.histar_diff.proofs.diff_laws.user_changes_rise.Goals as goal

pub returns : goal.returns
returns c = user_changes_rise
