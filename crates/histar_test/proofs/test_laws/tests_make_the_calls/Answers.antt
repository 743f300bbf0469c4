-- Proves the goals of `tests_make_the_calls` of src/test_laws.rt that the search leaves open.
use Rattle.histar_test.proofs.StepLaws.{tests_make_the_calls}
use Rattle.histar_test.proofs.test_laws.tests_make_the_calls.Goals as goal

pub returns : goal.returns
returns c = tests_make_the_calls
