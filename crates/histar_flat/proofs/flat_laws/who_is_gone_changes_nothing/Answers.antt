-- Proves the goals of `who_is_gone_changes_nothing` of src/flat_laws.rt that the search leaves open.
use Rattle.histar_flat.proofs.ProcessLaws.{gone_change_nothing}
use Rattle.histar_flat.proofs.flat_laws.who_is_gone_changes_nothing.Goals as goal

pub returns : goal.returns
returns c = gone_change_nothing
