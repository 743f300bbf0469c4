-- Proves the goals of `make_calls` of src/running.rt that the search leaves open.
use Rattle.histar_dialogue.proofs.Runs.{adds_on}
use Rattle.histar_dialogue.proofs.running.Running.make_calls.Goals as goal

pub calls-preserved : goal.calls-preserved
calls-preserved c =
    adds_on c.args.first c.args.self.now c.calls.self c.make_call.new.self _ _ _ c.calls.yielded c.in-Some.call c.calls.invariant
    c.in_ok-make_call.ensures.ok
