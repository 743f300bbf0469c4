-- Proves the goals of `lines_stay_inside` of src/laws.rt that the search leaves open.
use Rattle.histar_outside.proofs.Sealing.{lines_stay_inside}
use Rattle.histar_outside.proofs.laws.lines_stay_inside.Goals as goal

pub returns : goal.returns
returns c = lines_stay_inside
