-- Proves the goals of `wrote_event` of src/takers.rt that the search leaves open.
use Rattle.std.proofs.Common.{subst}
use Rattle.histar_cells.specs.Whose.{IsUserOfProcess}
use Rattle.histar_policy.proofs.MadeThings.{none_wrote, wrote_as}
use Rattle.histar_policy.proofs.takers.wrote_event.Goals as goal

pub returns-in_default : goal.returns-in_default
returns-in_default g c =
    none_wrote c.args.machine.now c.args.process.now c.args.path.now
    (subst (IsUserOfProcess c.args.machine.now c.args.process.now) c.in_default.is c.user_of_process.ensures)

pub returns : goal.returns
returns g c =
    wrote_as c.args.machine.now c.args.process.now c.args.path.now _ c.in-Some.user
    (subst (IsUserOfProcess c.args.machine.now c.args.process.now) c.in-Some.is c.user_of_process.ensures) c.in_ok-path.ensures.ok
