-- Proves the goals of `escaped_is_text` of src/escape.rt that the search leaves open.
use Rattle.histar_page.proofs.EscapeLemmas.{text_bytes}
use Rattle.histar_page.proofs.escape.escaped_is_text.Goals as goal

pub returns : goal.returns
returns c = text_bytes
