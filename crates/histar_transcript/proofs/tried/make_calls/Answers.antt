-- Proves the goals of `make_calls` of src/tried.rt that the search leaves open.
use Rattle.std.proofs.Common.{map}
use Rattle.histar_transcript.proofs.Trying.{more_calls, no_calls}
use Rattle.histar_transcript.proofs.tried.make_calls.Goals as goal

pub calls-init : goal.calls-init
calls-init g c = no_calls c.args.shown.first (map (λ line. line.now) c.args.shown.lines.now) c.args.machine.now c.args.said.now

pub calls-preserved : goal.calls-preserved
calls-preserved g c =
    more_calls c.args.shown.first (map (λ line. line.now) c.args.shown.lines.now) c.args.machine.now c.calls.machine c.make_call.new.machine
    c.args.said.now c.calls.said c.make_call.new.said c.calls.yielded c.in-Some.call c.calls.invariant c.in_ok-make_call.ensures.ok
