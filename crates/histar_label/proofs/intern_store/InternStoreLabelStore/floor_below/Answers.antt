-- Proves the goals of `InternStoreLabelStore::floor_below` of src/intern_store.rt that the search leaves open.
use Rattle.std.proofs.Common.{◌∙◌}
use Rattle.std.specs.List.{slice_get}
use Rattle.histar_label.specs.Store.{label_at}
use Rattle.histar_label.proofs.Orders.{is_floor_below}
use Rattle.histar_label.proofs.intern_store.InternStoreLabelStore.floor_below.Goals as goal

pub returns-clause-answer : goal.returns-clause-answer
returns-clause-answer c =
    let labels = slice_get c.args.self.now in
    c.answer.ensures.answer ∙ is_floor_below (label_at labels c.args.first) (label_at labels c.args.second) (label_at labels c.args.upper)
