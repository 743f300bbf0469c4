-- Proves the goals of `set_each` of src/labels.rt that the search leaves open.
use Rattle.std.proofs.Common.{ap, sym, ◌∙◌}
use Rattle.histar_level.specs.Levels.{Levels}
use Rattle.histar_label.specs.Levels.{with_level}
use Rattle.histar_layout.proofs.LabellingLemmas.{each_next}
use Rattle.histar_layout.proofs.labels.set_each.Goals as goal

pub loop-category-preserved : goal.loop-category-preserved
loop-category-preserved g c =
    let category = c.category-item.result in
    c.in_ok-set.ensures.ok ∙ ap (λ (L : Levels). with_level L category c.args.level) c.loop-category.invariant
    ∙ sym (each_next c.args.label.now c.args.level c.args.categories.now c.loop-category.category-index category
    c.loop-category-test.true c.category-item.is)
