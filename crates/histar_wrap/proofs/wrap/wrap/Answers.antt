-- Proves the goals of `wrap` of src/wrap.rt that the search leaves open.
use Rattle.histar_wrap.proofs.Wrapping.{made, no_room, not_made}
use Rattle.histar_wrap.proofs.wrap.wrap.Goals as goal

pub returns-in_err-head : goal.returns-in_err-head
returns-in_err-head g c = no_room c.args.unix.now _ _ _ _ _ c.from_residual.ensures.1 c.in_err-head.ensures.runs

pub returns-in_err-make_job : goal.returns-in_err-make_job
returns-in_err-make_job g c =
    not_made c.args.unix.now _ _ _ _ c.in_ok-head.ensures.runs _ c.as_slice.ensures _ _ _
    c.from_residual-in_err-make_job.ensures.1 c.in_err-make_job.ensures

pub returns : goal.returns
returns g c =
    made c.args.unix.now _ _ _ _ c.in_ok-head.ensures.runs _ c.as_slice.ensures _ c.in_ok-make_job.ensures _ c.child.ensures
