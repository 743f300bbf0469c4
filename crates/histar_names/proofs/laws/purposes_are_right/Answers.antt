-- Proves the goals of `purposes_are_right` of src/laws.rt that the search leaves open.
use Rattle.histar_names.proofs.NamedCategories.{purposes_are_right}
use Rattle.histar_names.proofs.laws.purposes_are_right.Goals as goal

pub returns : goal.returns
returns c = purposes_are_right
