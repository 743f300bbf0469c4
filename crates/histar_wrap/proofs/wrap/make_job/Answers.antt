-- Proves the goals of `make_job` of src/wrap.rt that the search leaves open.
use Rattle.histar_wrap.proofs.Wrapping.{no_place, with_place}
use Rattle.histar_wrap.proofs.wrap.make_job.Goals as goal

pub returns-in_err-room : goal.returns-in_err-room
returns-in_err-room g c status status_is =
    no_place c.args.unix.now _ status _ _ _ _ c.from_residual.ensures.1 c.in_err-room.ensures.runs

pub returns : goal.returns
returns g c status status_is =
    (with_place c.args.unix.now _ status _ _ _ c.in_ok-room.ensures.runs).leads _ _ (c.start_job.ensures status status_is)
