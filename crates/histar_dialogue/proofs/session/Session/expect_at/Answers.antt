-- Proves the goals of `expect_at` of src/session.rt that the search leaves open.
use Rattle.std.proofs.Common.{List, ℕ, ap, subst, sym, ◌∙◌}
use Rattle.std.proofs.lemmas.Result.{IfOk-weaker}
use Rattle.histar_script.specs.Laws.{EndsItsLines}
use Rattle.histar_script.specs.Lines.{lines_of}
use Rattle.histar_dialogue.specs.Asked.{IsTable}
use Rattle.histar_dialogue.specs.Claims.{claims_at}
use Rattle.histar_dialogue.proofs.Claiming.{claims_end}
use Rattle.histar_dialogue.proofs.Obeying.{expects_at}
use Rattle.histar_dialogue.proofs.session.Session.expect_at.Goals as goal

pub take_claims-requires : goal.take_claims-requires
take_claims-requires c =
    subst EndsItsLines (sym (c.as_slice-in-Ok-2.ensures.value ∙ c.in_ok-claims-in-Ok.ensures))
    (claims_end c.args.path.now (lines_of c.as_slice-in-Ok.result.now))

pub returns-in_ok-claims-in-Ok-clause-ok : goal.returns-in_ok-claims-in-Ok-clause-ok
returns-in_ok-claims-in-Ok-clause-ok c =
    IfOk-weaker c.take_claims.result _ _
    (λ said h. expects_at c.args.self.now c.take_claims.new.self said.items c.args.path.now c.in-Ok.table.items _
    (subst (λ (l : List ℕ). IsTable l c.in-Ok.table.items) c.as_slice.ensures.value c.in-Ok.ensures)
    (c.as_slice-in-Ok-2.ensures.value ∙ c.in_ok-claims-in-Ok.ensures
    ∙ ap (λ (l : List ℕ). claims_at c.args.path.now (lines_of l)) c.as_slice-in-Ok.ensures.value) h)
    c.take_claims.ensures.ok
