-- Proves the goals of `breach_among` of src/machines.rt that the search leaves open.
use Rattle.histar_never.proofs.OnMachines.{nodes_go_on}
use Rattle.histar_never.proofs.machines.breach_among.Goals as goal

pub nodes-preserved : goal.nodes-preserved
nodes-preserved g c =
    nodes_go_on c.args.machine.now c.args.never.now c.args.nodes.now c.nodes.rest.now c.node-item.result
    c.in-len1-up.len_at_least c.node-item.is c.nodes.invariant c.breach_of_node.result c.breach_of_node.ensures
    c.in_default-breach_of_node.is
