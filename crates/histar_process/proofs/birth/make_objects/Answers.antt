-- Proves the goals of `make_objects` of src/birth.rt that the search leaves open.
use Rattle.histar_programs.proofs.Running.{fails_so}
use Rattle.histar_process.proofs.Births.{before_write, with_segment, without_body, without_segment, written_so}
use Rattle.histar_process.proofs.birth.make_objects.Goals as goal

pub returns-in_err-body : goal.returns-in_err-body
returns-in_err-body g c status revealed =
    without_body _ c.args.parent.now.home.now status c.args.newborn.now _ _ _ _ c.from_residual.ensures.1 c.in_err-body.ensures

pub returns-in_err-segment : goal.returns-in_err-segment
returns-in_err-segment g c status revealed =
    without_segment _ c.args.parent.now.home.now status c.args.newborn.now _ _ _ c.in_ok-body.ensures _ _ _
    c.from_residual-in_err-segment.ensures.1 c.in_err-segment.ensures

pub returns-in_err-grown : goal.returns-in_err-grown
returns-in_err-grown g c status revealed =
    fails_so _ _ _ _ _ _ c.from_residual-in_err-grown.ensures.1
    ((with_segment _ c.args.parent.now.home.now status c.args.newborn.now _ _ _ c.in_ok-body.ensures _ _ c.in_ok-segment.ensures).leads _ _
    (before_write _ _ _ _ c.in_err-grown.ensures.memory))

pub returns : goal.returns
returns g c status revealed =
    (with_segment _ _ status c.args.newborn.now _ _ _ c.in_ok-body.ensures _ _ c.in_ok-segment.ensures).leads _ _
    (written_so _ _ _ _ _ _ (c.in_ok-grown.ensures.ok status revealed) _ c.write_segment.ensures)
