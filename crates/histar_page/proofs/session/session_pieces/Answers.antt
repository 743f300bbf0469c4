-- Proves the goals of `session_pieces` of src/session.rt that the search leaves open.
use Rattle.std.proofs.Common.{◌∙◌, ap}
use Rattle.std.proofs.lemmas.Result.{IfOk-weaker}
use Rattle.histar_page.specs.Texts.{texts}
use Rattle.histar_page.specs.Session.{session_items}
use Rattle.histar_page.proofs.session.session_pieces.Goals as goal

pub returns : goal.returns
returns c =
    let script = ap texts c.as_slice.ensures.value ∙ c.in_ok-script.ensures in
    let output = ap texts c.as_slice-2.ensures.value ∙ c.in_ok-output.ensures in
    let reasons = ap texts c.as_slice-3.ensures.value ∙ c.in_ok-reasons.ensures in
    IfOk-weaker c.line_pieces.result _ _ (λ pieces are. are ∙ (λ i. session_items (script i) (output i) (reasons i))) c.line_pieces.ensures
