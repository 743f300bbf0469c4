-- Proves the goals of `push_each` of src/views.rt that the search leaves open.
use Rattle.std.proofs.Common.{◌++◌, ◌∙◌, ap}
use Rattle.histar_page.specs.Texts.{texts}
use Rattle.histar_page.specs.Items.{items_of}
use Rattle.histar_page.proofs.ViewLemmas.{all_shown, views_are}
use Rattle.histar_page.proofs.views.push_each.Goals as goal

pub returns : goal.returns
returns c =
    all_shown c.args.view c.lines.rest.now c.in_default.len_below c.lines.invariant
    ∙ ap (λ items. items_of c.args.pieces.now.items ++ items) (views_are c.args.view (texts c.args.lines.now))
