-- Proves the goals of `unexpected_refusals_are_checked` of src/test_laws.rt that the search leaves open.
use Rattle.histar_test.proofs.StrictLaws.{unexpected_refusals_are_checked}
use Rattle.histar_test.proofs.test_laws.unexpected_refusals_are_checked.Goals as goal

pub returns : goal.returns
returns c = unexpected_refusals_are_checked
