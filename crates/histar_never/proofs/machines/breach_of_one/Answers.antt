-- Proves the goals of `breach_of_one` of src/machines.rt that the search leaves open.
use Rattle.std.proofs.Common.{subst}
use Rattle.histar_cells.specs.Whose.{IsUserOfProcess}
use Rattle.histar_never.proofs.OnMachines.{one_runs}
use Rattle.histar_never.proofs.machines.breach_of_one.Goals as goal

pub returns : goal.returns
returns g c =
    one_runs c.args.machine.now c.args.never.now c.args.process.now c.in_ok-user.user c.breach_of_process.result
    (subst (IsUserOfProcess c.args.machine.now c.args.process.now) c.in_ok-user.was c.user_of_process.ensures)
    c.breach_of_process.ensures
