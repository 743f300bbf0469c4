-- Proves the goals of `line_pieces` of src/session.rt that the search leaves open.
use Rattle.std.proofs.Common.{◌++◌, ◌∙◌, ap}
use Rattle.histar_page.specs.Texts.{texts}
use Rattle.histar_page.specs.Callers.{callers}
use Rattle.histar_page.specs.Session.{begin_items, calls_items}
use Rattle.histar_page.proofs.session.line_pieces.Goals as goal

pub returns : goal.returns
returns c =
    let replies = ap texts c.as_slice.ensures.value ∙ c.in_ok-replies.ensures in
    let reasons = ap texts c.as_slice-2.ensures.value ∙ c.in_ok-reasons.ensures in
    let raw_calls = ap texts c.as_slice-3.ensures.value ∙ c.in_ok-raw_calls.ensures in
    let explanations = ap texts c.as_slice-4.ensures.value ∙ c.in_ok-explanations.ensures in
    let script = texts c.args.script.now in
    let begun = c.in_ok-pieces.ensures ∙ ap (λ lines. begin_items (callers script lines)) replies in
    c.in_ok-push_session.ensures
    ∙ (λ i. begun i ++ calls_items script (replies i) (record {
      reasons = reasons i;
      raw_calls = raw_calls i;
      explanations = explanations i;
    }))
