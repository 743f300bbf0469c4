-- Proves the goal of `user_of_process` of src/whose.rt that the search leaves open.
use Rattle.std.proofs.Common.{ap}
use Rattle.histar_syscall.specs.KernelModel.{state}
use Rattle.histar_cells.proofs.ThreadUsers.{user_shown}
use Rattle.histar_cells.proofs.whose.user_of_process.Goals as goal

pub returns : goal.returns
returns g c =
    user_shown c.args.machine.now c.args.process.now c.users.result.now c.roots.result.now (state c.kernel.result.now) c.thread_user.result
    c.users.ensures c.roots.ensures (ap state c.kernel.ensures) c.thread_user.ensures
