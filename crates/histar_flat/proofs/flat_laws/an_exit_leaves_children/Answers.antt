-- Proves the goals of `an_exit_leaves_children` of src/flat_laws.rt that the search leaves open.
use Rattle.histar_flat.proofs.ProcessLaws.{exits_leave_children}
use Rattle.histar_flat.proofs.flat_laws.an_exit_leaves_children.Goals as goal

pub returns : goal.returns
returns c = exits_leave_children
