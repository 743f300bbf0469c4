-- Proves the goals of `reasons_show_exactly` of src/laws.rt that the search leaves open.
use Rattle.histar_explain.proofs.Shown.{shows_exactly}
use Rattle.histar_explain.proofs.laws.reasons_show_exactly.Goals as goal

pub returns : goal.returns
returns c = shows_exactly
