-- The invariants and measures of `push_others` of src/status.rt.
use Rattle.std.proofs.Common.{◌≡◌, ◌++◌, List, length}
use Rattle.std.specs.List.{flat_map}
use Rattle.histar_layout.specs.Status.{child_bytes}
use Rattle.histar_layout.specs.StatusParts.{others}
use Rattle.histar_layout.specs.declared.status.Child.{Child}
use Rattle.histar_layout.proofs.WritingStatuses.{IsLeft}
use Rattle.histar_layout.proofs.status.push_others.Given as goal

abbrev pub invariant-children : goal.invariant-children
invariant-children g l =
    (those : List Child) → l.children ≡ flat_map child_bytes those
    → IsLeft l.number l.out.items l.rest (l.fn.out.items ++ flat_map child_bytes (others l.number those))

abbrev pub decreases-children : goal.decreases-children
decreases-children g l = length l.rest
