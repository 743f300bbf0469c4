-- Proves the goal of `adds_nothing_again` of src/by_users.rt.
use Rattle.histar_ever.proofs.Again.{last_again_of_users}
use Rattle.histar_ever.proofs.by_users.EverUsersGather.adds_nothing_again.Goals as goal

pub returns : goal.returns
returns c = last_again_of_users
