-- Proves the goals of `one_reply_a_line` of src/flat_laws.rt that the search leaves open.
use Rattle.histar_flat.proofs.Laws.{one_reply_a_line}
use Rattle.histar_flat.proofs.flat_laws.one_reply_a_line.Goals as goal

pub returns : goal.returns
returns c = one_reply_a_line
