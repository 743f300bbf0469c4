-- Proves the goals of `answer_before` of src/handling.rt that the search leaves open.
use Rattle.histar_attack.proofs.HandledLines.{answers_more, answers_none}
use Rattle.histar_attack.proofs.handling.answer_before.Goals as goal

pub calls-init : goal.calls-init
calls-init g c = answers_none c.args.machine.now c.args.output.now.items

pub calls-preserved : goal.calls-preserved
calls-preserved g c = answers_more c.calls.yielded c.in-Some.call c.calls.invariant c.in_ok-answer_unix.ensures.ok
