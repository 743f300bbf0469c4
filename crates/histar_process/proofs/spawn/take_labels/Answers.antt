-- Proves the goals of `take_labels` of src/spawn.rt that the search leaves open.
use Rattle.histar_programs.proofs.Running.{fails_so, grants, refuses}
use Rattle.histar_process.proofs.Spawning.{with_label, without_label}
use Rattle.histar_process.proofs.spawn.take_labels.Goals as goal

pub returns-in_err-set_label : goal.returns-in_err-set_label
returns-in_err-set_label g c =
    without_label _ _ _ _ _ _ c.from_residual.ensures.1 (refuses _ _ _ _ _ _ c.in_err-set_label.ensures.ok c.in_err-set_label.ensures.memory)

pub returns-in_err-set_clearance : goal.returns-in_err-set_clearance
returns-in_err-set_clearance g c =
    fails_so _ _ _ _ _ _ c.from_residual-in_err-set_clearance.ensures.1
    ((with_label _ _ _ _ c.in_ok-set_label.ensures.ok.0).leads _ _ (refuses _ _ _ _ _ _ c.in_err-set_clearance.ensures.ok
    c.in_err-set_clearance.ensures.memory))

pub returns : goal.returns
returns g c =
    (with_label _ _ _ _ c.in_ok-set_label.ensures.ok.0).leads _ _ (grants _ _ _ _ tt c.in_ok-set_clearance.ensures.ok.0 tt)
