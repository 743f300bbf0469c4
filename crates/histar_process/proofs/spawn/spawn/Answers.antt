-- Proves the goals of `spawn` of src/spawn.rt that the search leaves open.
use Rattle.histar_process.proofs.Spawning.{made, no_room, not_made}
use Rattle.histar_process.proofs.spawn.spawn.Goals as goal

pub returns-in_err-head : goal.returns-in_err-head
returns-in_err-head g c =
    no_room _ _ _ _ _ _ _ _ c.from_residual.ensures.1 c.in_err-head.ensures.runs

pub returns-in_err-make_child : goal.returns-in_err-make_child
returns-in_err-make_child g c =
    not_made _ _ _ _ _ _ _ c.in_ok-head.ensures.runs
    _ c.as_slice.ensures _ _ _ c.from_residual-in_err-make_child.ensures.1 c.in_err-make_child.ensures

pub returns : goal.returns
returns g c =
    made _ _ _ _ _ _ _ c.in_ok-head.ensures.runs _ c.as_slice.ensures _ c.in_ok-make_child.ensures _ c.child.ensures
