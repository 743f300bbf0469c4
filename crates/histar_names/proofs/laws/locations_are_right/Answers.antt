-- Proves the goals of `locations_are_right` of src/laws.rt that the search leaves open.
use Rattle.histar_names.proofs.NamedObjects.{locations_are_right}
use Rattle.histar_names.proofs.laws.locations_are_right.Goals as goal

pub returns : goal.returns
returns c = locations_are_right
