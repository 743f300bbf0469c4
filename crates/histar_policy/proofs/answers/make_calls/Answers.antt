-- Proves the goals of `make_calls` of src/answers.rt that the search leaves open.
use Rattle.histar_policy.proofs.Answering.{more_calls}
use Rattle.histar_policy.proofs.answers.make_calls.Goals as goal

pub calls-preserved : goal.calls-preserved
calls-preserved g c =
    more_calls c.args.machine.now c.calls.machine c.make_call.new.machine _ _ _ c.calls.yielded c.in-Some.call c.calls.invariant
    c.in_ok-make_call.ensures.ok
