-- Proves the goals of `exit` of src/exit.rt that the search leaves open.
use Rattle.histar_process.proofs.Exiting.{ended, not_ended, not_read}
use Rattle.histar_process.proofs.exit.exit.Goals as goal

pub returns-in_err-segment : goal.returns-in_err-segment
returns-in_err-segment g c =
    not_read _ _ _ _ _ _ _ c.from_residual.ensures.1 c.in_err-segment.ensures

pub returns-in_err-end_process : goal.returns-in_err-end_process
returns-in_err-end_process g c =
    not_ended _ _ _ _ _ _ c.in_ok-segment.ensures _ _ _ c.from_residual-in_err-end_process.ensures.1 c.in_err-end_process.ensures

pub returns : goal.returns
returns g c =
    ended _ _ _ _ _ _ c.in_ok-segment.ensures _ c.in_ok-end_process.ensures
