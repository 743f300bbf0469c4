-- Proves the goals of `make_call` of src/answers.rt that the search leaves open.
use Rattle.histar_policy.proofs.Answering.{after_call}
use Rattle.histar_policy.proofs.answers.make_call.Goals as goal

pub returns-clause-ok : goal.returns-clause-ok
returns-clause-ok g c =
    after_call c.args.machine.now c.step.new.self c.args.notes.now.items c.push.new.self.items c.args.call c.asked_of-asked.result c.in-Ok.reply
    c.in_ok-event.event c.in-Ok.ensures.means c.asked_of-asked.ensures c.in_ok-event.ensures c.in_ok-push.ensures.items
