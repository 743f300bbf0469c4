-- Proves the goals of `answer_on` of src/session.rt that the search leaves open.
use Rattle.std.proofs.Common.{Option, Some, refl, sym, subst}
use Rattle.std.proofs.lemmas.Result.{IfOk-weaker}
use Rattle.histar_dialogue.specs.declared.running.Running.{Running}
use Rattle.histar_dialogue.specs.Steps.{AnswersOn}
use Rattle.histar_dialogue.proofs.session.answer_on.Goals as goal

pub returns-clause-ok : goal.returns-clause-ok
returns-clause-ok c =
    IfOk-weaker c.answer.result _ _
    (λ said h. subst (λ (o : Option Running). AnswersOn o (Some c.answer.new.self) c.args.call said.items) (sym c.in-Some.is)
    (c.answer.new.self, refl, h))
    c.answer.ensures.ok
