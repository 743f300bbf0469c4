-- Proves the goals of `bytes_are_read` of src/escape.rt that the search leaves open.
use Rattle.histar_page.proofs.EscapeLemmas.{read_bytes}
use Rattle.histar_page.proofs.escape.bytes_are_read.Goals as goal

pub returns : goal.returns
returns c = read_bytes
