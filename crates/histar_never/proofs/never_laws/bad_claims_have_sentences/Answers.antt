-- Proves the goals of `bad_claims_have_sentences` of src/never_laws.rt that the search leaves open.
use Rattle.histar_never.proofs.BadClaims.{bad_claims_have_sentences}
use Rattle.histar_never.proofs.never_laws.bad_claims_have_sentences.Goals as goal

pub returns : goal.returns
returns c = bad_claims_have_sentences
