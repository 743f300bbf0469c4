-- Proves the goals of `no_taken_line_breaks_one` of src/test_laws.rt that the search leaves open.
use Rattle.histar_test.proofs.FaultLaws.{no_taken_line_breaks_one}
use Rattle.histar_test.proofs.test_laws.no_taken_line_breaks_one.Goals as goal

pub returns : goal.returns
returns c = no_taken_line_breaks_one
