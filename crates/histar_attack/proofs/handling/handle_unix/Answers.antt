-- Proves the goals of `handle_unix` of src/handling.rt that the search leaves open.
use Rattle.std.proofs.Common.{sym, ◌∙◌}
use Rattle.histar_attack.proofs.HandledLines.{left_in, left_out, outside_there, unix_inside, unix_made}
use Rattle.histar_attack.proofs.handling.handle_unix.Goals as goal

pub returns-then-is_left_out-clause-ok : goal.returns-then-is_left_out-clause-ok
returns-then-is_left_out-clause-ok g c =
    let left = left_out c.is_outside_caller-is_outside.result c.args.rule.now.follow (sym c.is_left_out.ensures ∙ c.if-is_left_out.true) in
    unix_inside c.args.rule.now c.args.machine.now c.args.output.now.items c.push_line.new.text.items c.args.call
    c.is_outside_caller-is_outside.result left.0 left.1
    (outside_there c.args.machine.now c.args.rule.now.category c.args.call.process
    c.is_outside_caller-is_outside.result c.kernel.ensures c.roots.ensures c.is_outside_caller-is_outside.ensures)
    c.in_ok-push_line.ensures

pub returns-clause-ok : goal.returns-clause-ok
returns-clause-ok g c =
    unix_made c.args.rule.now c.args.machine.now c.args.output.now.items c.answer_unix.new.output.items c.answer_unix.new.machine c.args.call
    c.is_outside_caller-is_outside.result c.answer_unix.result
    (left_in c.is_outside_caller-is_outside.result c.args.rule.now.follow (sym c.is_left_out.ensures ∙ c.if-is_left_out.false))
    (outside_there c.args.machine.now c.args.rule.now.category c.args.call.process
    c.is_outside_caller-is_outside.result c.kernel.ensures c.roots.ensures c.is_outside_caller-is_outside.ensures)
    c.answer_unix.ensures.ok
