-- The invariants and measures of `reached_from` of src/removal.rt.
use Rattle.std.proofs.Common.{◌≤◌, length, take}
use Rattle.histar_object.specs.Objects.{objects_of}
use Rattle.histar_container.proofs.Gathering.{Gathers, unread}
use Rattle.histar_container.proofs.removal.reached_from.Given as goal

-- this much of the list has been read, and the list has the numbers that the read ones link
abbrev pub invariant-loop-read : goal.invariant-loop-read
invariant-loop-read g l = record {
  in_list : l.read ≤ length l.list.items;
  gathers : Gathers (objects_of l.table) l.fn.object (take l.read l.list.items) l.list.items;
}

abbrev pub decreases-loop-read : goal.decreases-loop-read
decreases-loop-read g l = unread l.table.objects (take l.read l.list.items)
