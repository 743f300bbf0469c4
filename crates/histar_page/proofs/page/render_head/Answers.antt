-- Proves the goals of `render_head` of src/page.rt that the search leaves open.
use Rattle.std.proofs.Common.{ap, ◌++◌, ◌∙◌}
use Rattle.std.specs.Prelude.{filter}
use Rattle.std.proofs.lemmas.Result.{IfOk-weaker, on_ok_weaker}
use Rattle.histar_script.specs.Lines.{lines_of}
use Rattle.histar_page.specs.Callers.{callers}
use Rattle.histar_page.specs.Head.{head_items, style_items, title_of}
use Rattle.histar_page.specs.Items.{items_of}
use Rattle.histar_page.specs.Lines.{is_reply}
use Rattle.histar_page.specs.Who.{who_items}
use Rattle.histar_page.proofs.PageLemmas.{part_written, parts_written}
use Rattle.histar_page.proofs.page.render_head.Goals as goal

pub returns : goal.returns
returns c =
    let texts = c.args.texts.now in
    let script = lines_of texts.script.now in
    let output = lines_of texts.output.now in
    let processes = callers script (filter is_reply output) in
    let old = c.args.page.now.items in
    let style = style_items (title_of texts.name.now script) processes in
    let head = head_items (title_of texts.name.now script) texts.name.now texts.version.now output in
    let styled = IfOk-weaker c.style_pieces.result _ _
    (λ pieces are. are ∙ ap (λ title. style_items title processes) c.in_ok-title.ensures) c.style_pieces.ensures in
    let titled = IfOk-weaker c.head_pieces.result _ _
    (λ pieces are. are ∙ ap (λ title. head_items title texts.name.now texts.version.now output) c.in_ok-title.ensures) c.head_pieces.ensures in
    let style_in = part_written old style c.style_pieces.result (λ p. items_of p.items) c.in_ok-render_part.ensures.0
    c.in_ok-render_part.ensures.1 styled in
    let head_in = part_written _ head c.head_pieces.result (λ p. items_of p.items) c.in_ok-render_part-2.ensures.0
    c.in_ok-render_part-2.ensures.1 titled in
    on_ok_weaker c.render_part-3.result
    (λ done. parts_written old (style ++ head) (who_items script) (parts_written old style head style_in head_in)
    (part_written _ (who_items script) c.who_pieces.result (λ p. items_of p.items) done.0 done.1 c.who_pieces.ensures))
    c.render_part-3.ensures
