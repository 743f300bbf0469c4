-- Proves the goals of `equality_is_of_functions` of src/laws.rt that the search leaves open.
use Rattle.histar_label.proofs.Orders.{compares_functions}
use Rattle.histar_label.proofs.laws.equality_is_of_functions.Goals as goal

pub returns : goal.returns
returns c = compares_functions
