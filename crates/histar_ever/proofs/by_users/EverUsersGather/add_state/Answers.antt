-- Proves the goal of `add_state` of src/by_users.rt that the search leaves open.
use Rattle.std.proofs.lemmas.Result.{on_ok_weaker}
use Rattle.histar_ever.proofs.UsersGathered.{machine_added}
use Rattle.histar_ever.proofs.by_users.EverUsersGather.add_state.Goals as goal

pub returns : goal.returns
returns g c =
    on_ok_weaker c.add.result (machine_added c.args.machine.now c.in_ok-table.table c.args.self.now c.add.new.self c.in_ok-table.ensures)
    c.add.ensures
