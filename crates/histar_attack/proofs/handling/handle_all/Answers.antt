-- Proves the goals of `handle_all` of src/handling.rt that the search leaves open.
use Rattle.histar_attack.proofs.HandledLines.{handled_more, handled_none}
use Rattle.histar_attack.proofs.handling.handle_all.Goals as goal

pub items-init : goal.items-init
items-init g c = handled_none c.args.rule.now c.args.machine.now c.args.output.now.items

pub items-preserved : goal.items-preserved
items-preserved g c = handled_more c.args.rule.now c.items.yielded c.in-Some.item c.items.invariant c.in_ok-handle.ensures.ok
