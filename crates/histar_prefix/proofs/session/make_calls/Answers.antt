-- Proves the goals of `make_calls` of src/session.rt that the search leaves open.
use Rattle.std.proofs.Common.{sym, ◌∙◌}
use Rattle.histar_prefix.proofs.Calling.{left_more, made_more}
use Rattle.histar_prefix.proofs.session.make_calls.Goals as goal

pub calls-preserved-in-Continue-1 : goal.calls-preserved-in-Continue-1
calls-preserved-in-Continue-1 g c =
    made_more c.args.at c.args.machine.now c.calls.machine c.make_call.new.machine c.calls.yielded c.in-Some.call (sym c.is_before.ensures
    ∙ c.if-is_before.true) c.calls.invariant c.in_ok-make_call.ensures

pub calls-preserved-else-is_before-4 : goal.calls-preserved-else-is_before-4
calls-preserved-else-is_before-4 g c = left_more c.args.at c.args.machine.now c.calls.machine c.calls.yielded c.in-Some.call
    (sym c.is_before.ensures ∙ c.if-is_before.false) c.calls.invariant

pub calls-preserved-else-is_before-5 : goal.calls-preserved-else-is_before-5
calls-preserved-else-is_before-5 g c = left_more c.args.at c.args.machine.now c.calls.machine c.calls.yielded c.in-Some.call
    (sym c.is_before.ensures ∙ c.if-is_before.false) c.calls.invariant

pub calls-preserved-else-is_before-11 : goal.calls-preserved-else-is_before-11
calls-preserved-else-is_before-11 g c = left_more c.args.at c.args.machine.now c.calls.machine c.calls.yielded c.in-Some.call
    (sym c.is_before.ensures ∙ c.if-is_before.false) c.calls.invariant
