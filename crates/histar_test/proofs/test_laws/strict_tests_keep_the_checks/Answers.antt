-- Proves the goals of `strict_tests_keep_the_checks` of src/test_laws.rt that the search leaves open.
use Rattle.histar_test.proofs.StrictLaws.{strict_tests_keep_the_checks}
use Rattle.histar_test.proofs.test_laws.strict_tests_keep_the_checks.Goals as goal

pub returns : goal.returns
returns c = strict_tests_keep_the_checks
