-- The invariants and measures of `shown_group` of src/shown.rt.
use Rattle.std.proofs.Common.{◌≡◌, ◌+◌, drop, length}
use Rattle.histar_layout.specs.ShownClass.{group_class_from}
use Rattle.histar_layout.proofs.shown.shown_group.Given as goal

abbrev pub invariant-loop-place : goal.invariant-loop-place
invariant-loop-place l =
    group_class_from l.label (length l.users.users + 1) l.users.groups
    ≡ group_class_from l.label (length l.users.users + 1 + l.place) (drop l.place l.users.groups)
