-- Proves the goals of `nothing_has_changed` of src/diff_laws.rt that the search leaves open.
use Rattle.histar_diff.proofs.Changes.{nothing_has_changed}
use Rattle.histar_diff.proofs.diff_laws.nothing_has_changed.Goals as goal

pub returns : goal.returns
returns c = nothing_has_changed
