-- Proves the goals of `reasons_are_first` of src/reasons_laws.rt that the search leaves open.
use Rattle.histar_reasons.proofs.First.{reasons_are_first}
use Rattle.histar_reasons.proofs.reasons_laws.reasons_are_first.Goals as goal

pub returns : goal.returns
returns c = reasons_are_first
