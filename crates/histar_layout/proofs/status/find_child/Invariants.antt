-- The invariants and measures of `find_child` of src/status.rt.
use Rattle.std.proofs.Common.{length}
use Rattle.histar_layout.specs.Status.{look_for, status_in}
use Rattle.histar_layout.proofs.ReadingStatuses.{IsSought}
use Rattle.histar_layout.proofs.status.find_child.Given as goal

abbrev pub invariant-children : goal.invariant-children
invariant-children l = IsSought (look_for (status_in l.bytes) l.number) l.number l.rest

abbrev pub decreases-children : goal.decreases-children
decreases-children l = length l.rest
