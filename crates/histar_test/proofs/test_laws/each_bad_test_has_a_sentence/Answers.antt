-- Proves the goals of `each_bad_test_has_a_sentence` of src/test_laws.rt that the search leaves open.
use Rattle.histar_test.proofs.FaultLaws.{each_bad_test_has_a_sentence}
use Rattle.histar_test.proofs.test_laws.each_bad_test_has_a_sentence.Goals as goal

pub returns : goal.returns
returns c = each_bad_test_has_a_sentence
