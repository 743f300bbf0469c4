-- Proves the goals of `statuses_are_spelled` of src/status.rt that the search leaves open.
use Rattle.histar_layout.proofs.Statuses.{statuses_are_spelled}
use Rattle.histar_layout.proofs.status.statuses_are_spelled.Goals as goal

pub returns : goal.returns
returns c = statuses_are_spelled
