-- Proves the goals of `push_lines` of src/secrets.rt that the search leaves open.
use Rattle.std.proofs.Common.{◌++◌, ◌∙◌, ap}
use Rattle.std.specs.Prelude.{filter}
use Rattle.std.proofs.lemmas.Result.{on_ok_weaker}
use Rattle.histar_page.specs.Texts.{texts}
use Rattle.histar_page.specs.Items.{items_of}
use Rattle.histar_page.specs.Lines.{is_reply, without_first}
use Rattle.histar_page.specs.Secrets.{lines_items}
use Rattle.histar_page.proofs.secrets.push_lines.Goals as goal

pub returns : goal.returns
returns c =
    let script = ap texts c.as_slice-2.ensures.value ∙ c.in_ok-script.ensures in
    let replies =
    ap texts c.as_slice-3.ensures.value ∙ c.in_ok-replies.ensures ∙ ap (λ lines. filter is_reply (texts lines)) c.as_slice.ensures.value
    ∙ ap (filter is_reply) c.in_ok-output.ensures in
    let runners =
    c.without_first.ensures ∙ ap (λ words. without_first (texts words)) c.as_slice-4.ensures.value ∙ c.in_ok-words.ensures.runners in
    let old = items_of c.args.pieces.now.items in
    on_ok_weaker c.push_files.result
    (λ done. done ∙ (λ i. old ++ lines_items (script i) (replies i) (runners i) (c.without_first-2.ensures i)))
    c.push_files.ensures
