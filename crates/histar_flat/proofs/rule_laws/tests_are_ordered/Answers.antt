-- Proves the goals of `tests_are_ordered` of src/rule_laws.rt that the search leaves open.
use Rattle.histar_flat.proofs.Warrants.{ordered}
use Rattle.histar_flat.proofs.rule_laws.tests_are_ordered.Goals as goal

pub returns : goal.returns
returns c = ordered
