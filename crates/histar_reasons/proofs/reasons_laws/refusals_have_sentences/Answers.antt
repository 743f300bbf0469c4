-- Proves the goals of `refusals_have_sentences` of src/reasons_laws.rt that the search leaves open.
use Rattle.histar_reasons.proofs.Spoken.{refusals_have_sentences}
use Rattle.histar_reasons.proofs.reasons_laws.refusals_have_sentences.Goals as goal

pub returns : goal.returns
returns c = refusals_have_sentences
