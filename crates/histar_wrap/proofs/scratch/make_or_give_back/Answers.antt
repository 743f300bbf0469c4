-- Proves the goals of `make_or_give_back` of src/scratch.rt that the search leaves open.
use Rattle.std.proofs.Common.{sym}
use Rattle.histar_wrap.proofs.GivingBack.{given_back, given_back_not, goes_on, stops_there}
use Rattle.histar_wrap.proofs.Scratching.{own_of}
use Rattle.histar_wrap.proofs.scratch.make_or_give_back.Goals as goal

pub returns-in-Ok-clause-runs : goal.returns-in-Ok-clause-runs
returns-in-Ok-clause-runs g c =
    goes_on _ _ _ _ (own_of c.args.wrapper.now) _ c.in-Ok.ensures.answered.0 c.in-Ok.ensures.answered.1

pub returns-in_default-clause-runs : goal.returns-in_default-clause-runs
returns-in_default-clause-runs g c =
    stops_there _ _ _ _ (own_of c.args.wrapper.now) _ _ c.in-Err.ensures.answered c.in-Err.ensures.memory
    (sym c.in_default.ensures)

pub returns-in_err-restore-clause-runs : goal.returns-in_err-restore-clause-runs
returns-in_err-restore-clause-runs g c =
    given_back_not _ _ _ _ (own_of c.args.wrapper.now) _ _ _
    c.in-Err.ensures.answered c.in-Refused.ensures _ _ _ c.from_residual.ensures.1 c.in_err-restore.ensures

pub returns-clause-runs : goal.returns-clause-runs
returns-clause-runs g c =
    given_back _ _ _ _ (own_of c.args.wrapper.now) _ _ _ c.in-Err.ensures.answered c.in-Refused.ensures _ c.in_ok-restore.ensures
