-- Proves the goals of `callers_of` of src/callers.rt that the search leaves open.
use Rattle.std.proofs.Common.{◌∙◌, ap}
use Rattle.std.specs.Prelude.{filter}
use Rattle.std.proofs.lemmas.Result.{IfOk-weaker}
use Rattle.histar_page.specs.Texts.{texts}
use Rattle.histar_page.specs.Lines.{is_reply}
use Rattle.histar_page.specs.Callers.{callers}
use Rattle.histar_page.proofs.callers.callers_of.Goals as goal

pub returns : goal.returns
returns c =
    let script = ap texts c.as_slice-2.ensures.value ∙ c.in_ok-script.ensures in
    let replies =
    ap texts c.as_slice-3.ensures.value ∙ c.in_ok-replies.ensures ∙ ap (λ lines. filter is_reply (texts lines)) c.as_slice.ensures.value
    ∙ ap (filter is_reply) c.in_ok-output.ensures in
    IfOk-weaker c.callers_in.result _ _ (λ found are. are ∙ (λ i. callers (script i) (replies i))) c.callers_in.ensures
