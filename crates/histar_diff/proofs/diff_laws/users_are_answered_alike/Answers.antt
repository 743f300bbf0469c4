-- Proves the goals of `users_are_answered_alike` of src/diff_laws.rt that the search leaves open.
use Rattle.histar_diff.proofs.UserMeaning.{users_are_answered_alike}
use Rattle.histar_diff.proofs.diff_laws.users_are_answered_alike.Goals as goal

pub returns : goal.returns
returns c = users_are_answered_alike
