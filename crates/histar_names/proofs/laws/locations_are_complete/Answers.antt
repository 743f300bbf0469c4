-- Proves the goals of `locations_are_complete` of src/laws.rt that the search leaves open.
use Rattle.histar_names.proofs.LocatedObjects.{locations_are_complete}
use Rattle.histar_names.proofs.laws.locations_are_complete.Goals as goal

pub returns : goal.returns
returns c = locations_are_complete
