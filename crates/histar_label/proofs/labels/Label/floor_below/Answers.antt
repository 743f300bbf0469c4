-- Proves the goals of `Label::floor_below` of src/labels.rt that the search leaves open.
use Rattle.std.proofs.Common.{◌∙◌}
use Rattle.histar_label.proofs.Orders.{is_floor_below}
use Rattle.histar_label.proofs.labels.Label.floor_below.Goals as goal

pub returns-clause-value : goal.returns-clause-value
returns-clause-value c = c.within.ensures.value ∙ is_floor_below c.args.self.now c.args.other.now c.args.label.now
