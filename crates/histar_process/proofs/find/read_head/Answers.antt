-- Proves the goals of `read_head` of src/find.rt that the search leaves open.
use Rattle.histar_programs.proofs.Running.{fails_so}
use Rattle.histar_process.proofs.Segments.{bytes_lent, head_fails, head_none, head_read, not_lent}
use Rattle.histar_process.proofs.find.read_head.Goals as goal

pub returns-in_err-bytes : goal.returns-in_err-bytes
returns-in_err-bytes g c =
    fails_so _ _ _ _ _ _ c.from_residual.ensures.1 (head_fails _ _ _ _ _ (not_lent _ _ _ _ _ c.read.follows.holds-at-none _ c.in_err-bytes.was
    c.read.ensures.memory))

pub returns-in_default : goal.returns-in_default
returns-in_default g c =
    head_none _ _ _ _ _ (bytes_lent _ _ _ _ _ c.read.follows.holds-at-none _ c.in_ok-bytes.was) c.in_default.ensures

pub returns : goal.returns
returns g c =
    head_read _ _ _ _ _ (bytes_lent _ _ _ _ _ c.read.follows.holds-at-none _ c.in_ok-bytes.was) _ c.in-Some.ensures
