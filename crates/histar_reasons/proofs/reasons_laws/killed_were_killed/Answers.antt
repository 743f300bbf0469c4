-- Proves the goals of `killed_were_killed` of src/reasons_laws.rt that the search leaves open.
use Rattle.histar_reasons.proofs.Killed.{killed_were_killed}
use Rattle.histar_reasons.proofs.reasons_laws.killed_were_killed.Goals as goal

pub returns : goal.returns
returns c = killed_were_killed
