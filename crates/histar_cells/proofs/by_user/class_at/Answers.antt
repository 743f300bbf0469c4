-- Proves the goal of `class_at` of src/by_user.rt that the search leaves open.
use Rattle.std.proofs.lemmas.Result.{IfOk-weaker}
use Rattle.histar_syscall.specs.KernelModel.{state}
use Rattle.histar_cells.proofs.UserSpots.{class_found}
use Rattle.histar_cells.proofs.by_user.class_at.Goals as goal

pub returns : goal.returns
returns g c =
    IfOk-weaker c.class_of.result _ _
    (class_found c.args.source.now.users.now (state c.args.source.now.kernel.now) c.args.object c.in-Some.label.now c.in-Some.ensures)
    c.class_of.ensures.ok
