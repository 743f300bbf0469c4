-- Proves the goals of `reasons_are_so` of src/reasons_laws.rt that the search leaves open.
use Rattle.histar_reasons.proofs.So.{reasons_are_so}
use Rattle.histar_reasons.proofs.reasons_laws.reasons_are_so.Goals as goal

pub returns : goal.returns
returns c = reasons_are_so
