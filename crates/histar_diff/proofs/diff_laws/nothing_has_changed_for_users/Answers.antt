-- Proves the goals of `nothing_has_changed_for_users` of src/diff_laws.rt that the search leaves open.
use Rattle.histar_diff.proofs.UserMeaning.{nothing_has_changed_for_users}
use Rattle.histar_diff.proofs.diff_laws.nothing_has_changed_for_users.Goals as goal

pub returns : goal.returns
returns c = nothing_has_changed_for_users
