-- Proves the goals of `make_body` of src/birth.rt that the search leaves open.
use Rattle.histar_process.proofs.Births.{with_thread, without_containers, without_thread}
use Rattle.histar_process.proofs.birth.make_body.Goals as goal

pub returns-in_err-container : goal.returns-in_err-container
returns-in_err-container g c = without_containers _ _ c.args.newborn.now _ _ _ _ c.from_residual.ensures.1 c.in_err-container.ensures

pub returns-in_err-child : goal.returns-in_err-child
returns-in_err-child g c =
    without_thread _ _ c.args.newborn.now _ _ _ c.in_ok-container.ensures _ _ _ c.from_residual-in_err-child.ensures.1 c.in_err-child.ensures

pub returns : goal.returns
returns g c =
    with_thread _ _ c.args.newborn.now _ _ _ c.in_ok-container.ensures _ c.in_ok-child.child c.in_ok-child.ensures
