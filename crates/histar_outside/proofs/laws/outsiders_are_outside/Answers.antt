-- Proves the goals of `outsiders_are_outside` of src/laws.rt that the search leaves open.
use Rattle.histar_outside.proofs.OutsideByName.{outsiders_outside}
use Rattle.histar_outside.proofs.laws.outsiders_are_outside.Goals as goal

pub returns : goal.returns
returns c = outsiders_outside
