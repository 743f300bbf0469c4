-- Proves the goal of `outputs_follow_replies` of src/laws.rt that the search leaves open.
use Rattle.histar_report.proofs.OutputsInOrder.{outputs_follow_replies}
use Rattle.histar_report.proofs.laws.outputs_follow_replies.Goals as goal

pub returns : goal.returns
returns c = outputs_follow_replies
