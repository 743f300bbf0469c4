-- Proves the goals of `checks_are_of_the_meaning` of src/test_laws.rt that the search leaves open.
use Rattle.histar_test.proofs.LineLaws.{checks_are_of_the_meaning}
use Rattle.histar_test.proofs.test_laws.checks_are_of_the_meaning.Goals as goal

pub returns : goal.returns
returns c = checks_are_of_the_meaning
