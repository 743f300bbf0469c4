-- Proves the goal of `users_before` of src/session.rt that the search leaves open.
use Rattle.histar_ever.specs.GatheringUsers.{GathersUsers}
use Rattle.histar_ever.proofs.Runs.{gathered_script}
use Rattle.histar_ever.proofs.session.users_before.Goals as goal

pub returns : goal.returns
returns c =
    gathered_script GathersUsers c.args.at c.args.text.now c.in_ok-machine.machine c.in_ok-machine.calls.items c.in-Ok-follow.ever
    c.in_ok-machine.ensures c.in-Ok-follow.ensures
