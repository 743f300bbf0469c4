-- Proves the goals of `take_expected` of src/session.rt that the search leaves open.
use Rattle.std.proofs.lemmas.Result.{IfOk-weaker}
use Rattle.histar_dialogue.proofs.Obeying.{expects_line}
use Rattle.histar_dialogue.proofs.session.Session.take_expected.Goals as goal

pub returns-in-Some-clause-ok : goal.returns-in-Some-clause-ok
returns-in-Some-clause-ok c =
    IfOk-weaker c.take.result _ _
    (λ said h. expects_line c.args.self.now c.take.new.self said.items c.args.found c.in-Some.line c.as_slice.result.now c.in-Some.is
    c.as_slice.ensures.value h)
    c.take.ensures.ok
