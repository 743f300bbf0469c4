-- Proves the goal of `calls_have_their_own` of src/laws.rt that the search leaves open.
use Rattle.histar_report.proofs.OutputsInOrder.{calls_have_their_own}
use Rattle.histar_report.proofs.laws.calls_have_their_own.Goals as goal

pub returns : goal.returns
returns c = calls_have_their_own
