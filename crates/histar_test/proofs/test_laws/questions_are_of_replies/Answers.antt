-- Proves the goals of `questions_are_of_replies` of src/test_laws.rt that the search leaves open.
use Rattle.histar_test.proofs.LineLaws.{questions_are_of_replies}
use Rattle.histar_test.proofs.test_laws.questions_are_of_replies.Goals as goal

pub returns : goal.returns
returns c = questions_are_of_replies
