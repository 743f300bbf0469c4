-- Proves the goals of `absences_are_so` of src/reasons_laws.rt that the search leaves open.
use Rattle.histar_reasons.proofs.Absent.{absences_are_so}
use Rattle.histar_reasons.proofs.reasons_laws.absences_are_so.Goals as goal

pub returns : goal.returns
returns c = absences_are_so
