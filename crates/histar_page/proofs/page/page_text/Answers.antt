-- Proves the goals of `page_text` of src/page.rt that the search leaves open.
use Rattle.std.proofs.Common.{◌++◌, ◌∙◌, ap, ℕ, List}
use Rattle.histar_page.specs.Items.{items_of}
use Rattle.histar_page.specs.Page.{head_shown, page_of, rights_shown, session_shown, sources_of}
use Rattle.histar_page.proofs.PageLemmas.{part_written, parts_written}
use Rattle.histar_page.proofs.page.page_text.Goals as goal

pub returns : goal.returns
returns c =
    let sources = sources_of c.args.texts.now in
    let old = c.new-page.result.items in
    let session = part_written _ (session_shown sources) c.session_pieces.result (λ p. items_of p.items) c.in_ok-render_part.ensures.0
    c.in_ok-render_part.ensures.1 c.session_pieces.ensures in
    parts_written old (head_shown sources ++ session_shown sources) (rights_shown sources)
    (parts_written old (head_shown sources) (session_shown sources) c.in_ok-render_head.ensures session) c.in_ok-render_rights.ensures
    ∙ ap (λ (page : List ℕ). page ++ page_of sources) c.new-page.ensures.items
