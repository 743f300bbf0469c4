-- Proves the goals of `expectations_are_checked` of src/test_laws.rt that the search leaves open.
use Rattle.histar_test.proofs.LineLaws.{expectations_are_checked}
use Rattle.histar_test.proofs.test_laws.expectations_are_checked.Goals as goal

pub returns : goal.returns
returns c = expectations_are_checked
