-- Proves the goals of `look_up` of src/find.rt that the search leaves open.
use Rattle.histar_programs.proofs.Running.{fails_so}
use Rattle.histar_process.proofs.Segments.{bytes_lent, look_fails, look_none, looks, not_lent}
use Rattle.histar_process.proofs.find.look_up.Goals as goal

pub returns-in_err-bytes : goal.returns-in_err-bytes
returns-in_err-bytes g c =
    fails_so _ _ _ _ _ _ c.from_residual.ensures.1 (look_fails _ _ _ _ _ _ (not_lent _ _ _ _ _ c.read.follows.holds-at-none _ c.in_err-bytes.was
    c.read.ensures.memory))

pub returns-in_err-child : goal.returns-in_err-child
returns-in_err-child g c =
    fails_so _ _ _ _ _ _ c.from_residual-in_err-child.ensures.1
    (look_none _ _ _ _ _ (bytes_lent _ _ _ _ _ c.read.follows.holds-at-none _ c.in_ok-bytes.was) _ _ c.in_err-child.ensures)

pub returns : goal.returns
returns g c =
    looks _ _ _ _ _ (bytes_lent _ _ _ _ _ c.read.follows.holds-at-none _ c.in_ok-bytes.was) _ _ c.in_ok-child.ensures
