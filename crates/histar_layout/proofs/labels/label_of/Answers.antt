-- Proves the goals of `label_of` of src/labels.rt that the search leaves open.
use Rattle.std.proofs.Common.{ap, sym, ◌∙◌}
use Rattle.histar_level.specs.Levels.{Levels}
use Rattle.histar_label.specs.Levels.{with_level}
use Rattle.histar_layout.proofs.LabellingLemmas.{labelled_next}
use Rattle.histar_layout.proofs.labels.label_of.Goals as goal

pub loop-category-preserved : goal.loop-category-preserved
loop-category-preserved g c =
    let item = c.loop-category-item.result in
    c.in_ok-set.ensures.ok ∙ ap (λ (L : Levels). with_level L item.0 item.1) c.loop-category.invariant
    ∙ sym (labelled_next c.args.exceptions.now c.args.default c.loop-category.category-index item c.loop-category-test.true c.loop-category-item.is)
