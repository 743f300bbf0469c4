-- Proves the goals of `take_claims` of src/session.rt that the search leaves open.
use Rattle.std.proofs.Common.{rules}
use Rattle.std.proofs.lemmas.Result.{IfOk-weaker}
use Rattle.histar_dialogue.proofs.Obeying.{claims_taken}
use Rattle.histar_dialogue.proofs.session.Session.take_claims.Goals as goal

pub returns-clause-ok : goal.returns-clause-ok
returns-clause-ok c =
    IfOk-weaker c.read_behind.result _ _
    (λ said h. claims_taken c.args.self.now c.read_behind.new.self said.items c.args.claims.now (search rules) h)
    c.read_behind.ensures.ok
