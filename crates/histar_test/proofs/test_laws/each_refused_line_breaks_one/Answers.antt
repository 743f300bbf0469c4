-- Proves the goals of `each_refused_line_breaks_one` of src/test_laws.rt that the search leaves open.
use Rattle.histar_test.proofs.FaultLaws.{each_refused_line_breaks_one}
use Rattle.histar_test.proofs.test_laws.each_refused_line_breaks_one.Goals as goal

pub returns : goal.returns
returns c = each_refused_line_breaks_one
