-- Proves the goals of `nevers_are_met` of src/test_laws.rt that the search leaves open.
use Rattle.histar_test.proofs.NeverLaws.{nevers_are_met}
use Rattle.histar_test.proofs.test_laws.nevers_are_met.Goals as goal

pub returns : goal.returns
returns c = nevers_are_met
