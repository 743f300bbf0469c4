-- Proves the goals of `join_is_least_upper_bound` of src/laws.rt that the search leaves open.
use Rattle.histar_label.proofs.Orders.{join_least}
use Rattle.histar_label.proofs.laws.join_is_least_upper_bound.Goals as goal

pub returns : goal.returns
returns c = join_least
