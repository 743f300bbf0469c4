-- Proves the goals of `never_started_were_not` of src/reasons_laws.rt that the search leaves open.
use Rattle.histar_reasons.proofs.Started.{never_started_were_not}
use Rattle.histar_reasons.proofs.reasons_laws.never_started_were_not.Goals as goal

pub returns : goal.returns
returns c = never_started_were_not
