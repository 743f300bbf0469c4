-- Proves the goal of `add` of src/names.rt that the search leaves open.
use Rattle.histar_policy.proofs.Used.{name_added}
use Rattle.histar_policy.proofs.names.Names.add.Goals as goal

pub returns : goal.returns
returns c = name_added c.args.self.now.members.keys c.insert.new.self.keys c.args.name.now c.in_ok-insert.ensures.updates.0
