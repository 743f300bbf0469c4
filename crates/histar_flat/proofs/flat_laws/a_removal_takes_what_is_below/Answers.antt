-- Proves the goals of `a_removal_takes_what_is_below` of src/flat_laws.rt that the search leaves open.
use Rattle.histar_flat.proofs.FileChanges.{removals_take_what_is_below}
use Rattle.histar_flat.proofs.flat_laws.a_removal_takes_what_is_below.Goals as goal

pub returns : goal.returns
returns c = removals_take_what_is_below
