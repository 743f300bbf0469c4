-- Proves the goals of `outsiders_stay_outside` of src/laws.rt that the search leaves open.
use Rattle.histar_outside.proofs.Searches.{outsiders_stay_outside}
use Rattle.histar_outside.proofs.laws.outsiders_stay_outside.Goals as goal

pub returns : goal.returns
returns c = outsiders_stay_outside
