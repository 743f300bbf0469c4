-- Proves the goals of `users_are_right` of src/laws.rt that the search leaves open.
use Rattle.histar_names.proofs.RightUsers.{users_are_right}
use Rattle.histar_names.proofs.laws.users_are_right.Goals as goal

pub returns : goal.returns
returns c = users_are_right
