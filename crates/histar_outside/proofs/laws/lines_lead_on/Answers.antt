-- Proves the goals of `lines_lead_on` of src/laws.rt that the search leaves open.
use Rattle.histar_outside.proofs.JobsBegin.{lines_lead_on}
use Rattle.histar_outside.proofs.laws.lines_lead_on.Goals as goal

pub returns : goal.returns
returns c = lines_lead_on
