-- Proves the goals of `floor_is_least` of src/laws.rt that the search leaves open.
use Rattle.histar_label.proofs.Least.{floor_least}
use Rattle.histar_label.proofs.laws.floor_is_least.Goals as goal

pub returns : goal.returns
returns c = floor_least
