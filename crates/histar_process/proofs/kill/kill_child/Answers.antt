-- Proves the goals of `kill_child` of src/kill.rt that the search leaves open.
use Rattle.histar_process.proofs.Killing.{killed, not_found, not_killed, not_read_above}
use Rattle.histar_process.proofs.kill.kill_child.Goals as goal

pub returns-in_err-home : goal.returns-in_err-home
returns-in_err-home g c =
    not_found _ _ _ _ _ _ _ _ c.from_residual.ensures.1 c.in_err-home.ensures

pub returns-in_err-bytes : goal.returns-in_err-bytes
returns-in_err-bytes g c =
    not_read_above _ _ _ _ _ _ _ c.in_ok-home.ensures _ _ _ c.from_residual-in_err-bytes.ensures.1 c.in_err-bytes.ensures

pub returns-in_err-kill_known : goal.returns-in_err-kill_known
returns-in_err-kill_known g c =
    not_killed _ _ _ _ _ _ _ c.in_ok-home.ensures _ _ c.in_ok-bytes.ensures
    _ c.as_slice.ensures _ _ _ c.from_residual-in_err-kill_known.ensures.1 c.in_err-kill_known.ensures

pub returns : goal.returns
returns g c =
    killed _ _ _ _ _ _ _ c.in_ok-home.ensures _ _ c.in_ok-bytes.ensures _ c.as_slice.ensures _ c.in_ok-kill_known.ensures
