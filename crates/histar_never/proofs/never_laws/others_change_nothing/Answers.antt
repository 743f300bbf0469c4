-- Proves the goals of `others_change_nothing` of src/never_laws.rt that the search leaves open.
use Rattle.histar_never.proofs.Questions.{others_change_nothing}
use Rattle.histar_never.proofs.never_laws.others_change_nothing.Goals as goal

pub returns : goal.returns
returns c = others_change_nothing
