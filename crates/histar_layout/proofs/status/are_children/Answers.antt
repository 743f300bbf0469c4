-- Proves the goals of `are_children` of src/status.rt that the search leaves open.
use Rattle.histar_layout.proofs.ReadingStatuses.{lists_by_length}
use Rattle.histar_layout.proofs.status.are_children.Goals as goal

pub returns : goal.returns
returns c = lists_by_length c.args.bytes.now
