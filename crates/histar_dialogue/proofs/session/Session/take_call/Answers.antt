-- Proves the goals of `take_call` of src/session.rt that the search leaves open.
use Rattle.std.proofs.Common.{rules}
use Rattle.std.proofs.lemmas.Result.{IfOk-weaker}
use Rattle.histar_dialogue.proofs.Following.{call_taken}
use Rattle.histar_dialogue.proofs.session.Session.take_call.Goals as goal

pub returns-clause-ok : goal.returns-clause-ok
returns-clause-ok c =
    IfOk-weaker c.answer_on.result _ _
    (λ said h. call_taken c.args.self.now c.push_line.new.self c.args.line.now (search rules) c.in_ok-push_line.ensures.ok
    c.args.process c.args.call c.requires (search rules) c.answer_on.new.running said.items h)
    c.answer_on.ensures.ok
