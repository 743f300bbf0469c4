-- Proves the goals of `below_is_a_partial_order` of src/laws.rt that the search leaves open.
use Rattle.histar_label.proofs.Orders.{below_order}
use Rattle.histar_label.proofs.laws.below_is_a_partial_order.Goals as goal

pub returns : goal.returns
returns c = below_order
