-- Proves the goals of `make_calls` of src/following.rt that the search leaves open.
use Rattle.histar_prefix.specs.Prefix.{calls_before}
use Rattle.histar_ever.proofs.Making.{none_made, still_running}
use Rattle.histar_ever.proofs.following.make_calls.Goals as goal

pub calls-init : goal.calls-init
calls-init g c = none_made g.G.Gather.Gathers c.args.machine.now c.args.gathered.now

pub make_call-requires : goal.make_call-requires
make_call-requires g c =
    still_running g.G.Gather.Gathers (calls_before c.args.at c.calls.yielded) c.args.machine.now c.calls.machine c.args.gathered.now
    c.calls.gathered c.requires c.calls.invariant
