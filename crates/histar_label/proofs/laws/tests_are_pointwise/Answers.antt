-- Proves the goals of `tests_are_pointwise` of src/laws.rt that the search leaves open.
use Rattle.histar_label.proofs.Orders.{tests_pointwise}
use Rattle.histar_label.proofs.laws.tests_are_pointwise.Goals as goal

pub returns : goal.returns
returns c = tests_pointwise
