-- Proves the goals of `others_break_nothing` of src/never_laws.rt that the search leaves open.
use Rattle.histar_never.proofs.Broken.{others_break_nothing}
use Rattle.histar_never.proofs.never_laws.others_break_nothing.Goals as goal

pub returns : goal.returns
returns c = others_break_nothing
