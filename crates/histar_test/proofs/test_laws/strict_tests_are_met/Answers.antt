-- Proves the goals of `strict_tests_are_met` of src/test_laws.rt that the search leaves open.
use Rattle.histar_test.proofs.StrictLaws.{strict_tests_are_met}
use Rattle.histar_test.proofs.test_laws.strict_tests_are_met.Goals as goal

pub returns : goal.returns
returns c = strict_tests_are_met
