-- Proves the goals of `barrier_into` of src/ways.rt that the search leaves open.
use Rattle.histar_why.proofs.Barriers.{stopped_here}
use Rattle.histar_why.proofs.ways.barrier_into.Goals as goal

pub returns-in-Some-obstacle_at-clause-into : goal.returns-in-Some-obstacle_at-clause-into
returns-in-Some-obstacle_at-clause-into c =
    stopped_here c.args.names.now c.args.way.now c.in_default.is c.obstacle_at.result c.obstacle_at.ensures c.in-Some-obstacle_at.what
    c.in-Some-obstacle_at.is
