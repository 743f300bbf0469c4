-- Proves the goals of `expect` of src/session.rt that the search leaves open.
use Rattle.std.proofs.Common.{List, ℕ, None, ap, subst, ◌∙◌}
use Rattle.std.proofs.lemmas.Result.{IfOk-weaker}
use Rattle.histar_script.specs.Lines.{lines_of}
use Rattle.histar_dialogue.specs.Asked.{IsRun, of_replies}
use Rattle.histar_dialogue.specs.Parts.{expecting}
use Rattle.histar_dialogue.proofs.Obeying.{expects_last}
use Rattle.histar_dialogue.proofs.session.Session.expect.Goals as goal

pub returns-in_ok-found-in-Ok-clause-ok : goal.returns-in_ok-found-in-Ok-clause-ok
returns-in_ok-found-in-Ok-clause-ok c =
    IfOk-weaker c.take_expected.result _ _
    (λ said h. expects_last c.args.self.now c.take_expected.new.self said.items c.in-Ok.replies.items _
    (subst (λ (l : List ℕ). IsRun of_replies l c.in-Ok.replies.items) c.as_slice.ensures.value c.in-Ok.ensures)
    (c.in_ok-found-in-Ok.ensures ∙ ap (λ (l : List ℕ). expecting None (lines_of l)) c.as_slice-in-Ok.ensures.value) h)
    c.take_expected.ensures.ok
