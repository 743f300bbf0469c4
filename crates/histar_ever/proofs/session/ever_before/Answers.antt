-- Proves the goal of `ever_before` of src/session.rt that the search leaves open.
use Rattle.histar_ever.specs.Gathering.{Gathers}
use Rattle.histar_ever.proofs.Runs.{gathered_script}
use Rattle.histar_ever.proofs.session.ever_before.Goals as goal

pub follow-requires-clause-nothing : goal.follow-requires-clause-nothing
follow-requires-clause-nothing c accounts shows = c.new.ensures accounts

pub returns : goal.returns
returns c =
    gathered_script Gathers c.args.at c.args.text.now c.in_ok-machine.machine c.in_ok-machine.calls.items c.in-Ok.ever c.in_ok-machine.ensures
    c.in-Ok.ensures
