-- Proves the goals of `refusals_have_reasons` of src/reasons_laws.rt that the search leaves open.
use Rattle.histar_reasons.proofs.Agreeing.{refusals_have_reasons}
use Rattle.histar_reasons.proofs.reasons_laws.refusals_have_reasons.Goals as goal

pub returns : goal.returns
returns c = refusals_have_reasons
