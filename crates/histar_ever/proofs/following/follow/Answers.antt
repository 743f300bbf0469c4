-- Proves the goals of `follow` of src/following.rt that the search leaves open.
use Rattle.histar_prefix.specs.Prefix.{calls_before}
use Rattle.histar_ever.proofs.Making.{run_gathered, running_start, shown_start}
use Rattle.histar_ever.proofs.following.follow.Goals as goal

pub add_state-requires : goal.add_state-requires
add_state-requires g c = shown_start c.args.machine.now c.requires.started

pub make_calls-requires : goal.make_calls-requires
make_calls-requires g c =
    running_start g.G.Gather.Gathers c.args.machine.now c.args.nothing c.add_state.new.self c.requires.started c.requires.nothing
    c.in_ok-add_state.ensures

pub returns : goal.returns
returns g c =
    run_gathered g.G.Gather.Gathers (calls_before c.args.at c.args.calls.items) c.args.machine.now c.make_calls.new.machine c.args.nothing
    c.add_state.new.self c.make_calls.new.gathered c.requires.nothing c.in_ok-add_state.ensures c.in_ok-make_calls.ensures
