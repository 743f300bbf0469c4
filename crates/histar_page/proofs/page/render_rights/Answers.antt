-- Proves the goals of `render_rights` of src/page.rt that the search leaves open.
use Rattle.std.proofs.Common.{◌++◌}
use Rattle.std.proofs.lemmas.Result.{on_ok_weaker}
use Rattle.histar_script.specs.Lines.{lines_of}
use Rattle.histar_page.specs.Flows.{flows_items}
use Rattle.histar_page.specs.Items.{items_of}
use Rattle.histar_page.specs.Page.{drawing_shown, files_shown, secrets_shown, sources_of}
use Rattle.histar_page.proofs.PageLemmas.{part_written, parts_written}
use Rattle.histar_page.proofs.page.render_rights.Goals as goal

pub returns : goal.returns
returns c =
    let texts = c.args.texts.now in
    let files = files_shown (sources_of texts) in
    let secrets = secrets_shown (sources_of texts) in
    let flows = flows_items (lines_of texts.flows.now) in
    let drawing = drawing_shown (sources_of texts) in
    let old = c.args.page.now.items in
    let files_in = part_written old files c.files_of.result (λ p. items_of p.items) c.in_ok-render_part.ensures.0
    c.in_ok-render_part.ensures.1 c.files_of.ensures in
    let secrets_in = part_written _ secrets c.secrets_of.result (λ p. items_of p.items) c.in_ok-render_part-2.ensures.0
    c.in_ok-render_part-2.ensures.1 c.secrets_of.ensures in
    let flows_in = part_written _ flows c.flows_pieces.result (λ p. items_of p.items) c.in_ok-render_part-3.ensures.0
    c.in_ok-render_part-3.ensures.1 c.flows_pieces.ensures in
    on_ok_weaker c.render_part-4.result
    (λ done. parts_written old (files ++ secrets ++ flows) drawing
    (parts_written old (files ++ secrets) flows (parts_written old files secrets files_in secrets_in) flows_in)
    (part_written _ drawing c.drawing_of.result (λ p. items_of p.items) done.0 done.1 c.drawing_of.ensures))
    c.render_part-4.ensures
