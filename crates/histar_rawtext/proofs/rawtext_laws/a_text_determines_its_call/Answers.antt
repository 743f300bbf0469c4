-- Proves the goals of `a_text_determines_its_call` of src/rawtext_laws.rt that the search leaves open.
use Rattle.histar_rawtext.proofs.CallTexts.{texts_determine_calls}
use Rattle.histar_rawtext.proofs.rawtext_laws.a_text_determines_its_call.Goals as goal

pub returns : goal.returns
returns c = texts_determine_calls
