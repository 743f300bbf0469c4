-- Proves the goals of `handle_raw` of src/handling.rt that the search leaves open.
use Rattle.std.proofs.Common.{rules}
use Rattle.histar_attack.proofs.HandledLines.{raw_free, raw_made, tainted_there}
use Rattle.histar_attack.proofs.handling.handle_raw.Goals as goal

pub returns-then-not-is_tainted_caller-clause-ok : goal.returns-then-not-is_tainted_caller-clause-ok
returns-then-not-is_tainted_caller-clause-ok g c =
    raw_free c.args.rule.now c.args.machine.now c.args.output.now.items c.push_line.new.text.items c.args.asked
    c.is_tainted_caller.result (search rules)
    (tainted_there c.args.machine.now c.kernel.result.now c.args.rule.now.category c.args.asked.thread c.is_tainted_caller.result c.kernel.ensures
    c.is_tainted_caller.ensures) c.in_ok-push_line.ensures

pub returns-clause-ok : goal.returns-clause-ok
returns-clause-ok g c =
    raw_made c.args.rule.now c.args.machine.now c.args.output.now.items c.answer_raw.new.output.items c.answer_raw.new.machine c.args.asked
    c.is_tainted_caller.result c.answer_raw.result (search rules)
    (tainted_there c.args.machine.now c.kernel.result.now c.args.rule.now.category c.args.asked.thread c.is_tainted_caller.result c.kernel.ensures
    c.is_tainted_caller.ensures)
    c.answer_raw.ensures.ok
