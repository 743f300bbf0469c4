-- The invariants and measures of `shown_class` of src/shown.rt.
use Rattle.std.proofs.Common.{◌≡◌, ◌+◌, drop}
use Rattle.histar_layout.specs.ShownClass.{class_from}
use Rattle.histar_layout.proofs.shown.shown_class.Given as goal

abbrev pub invariant-loop-place : goal.invariant-loop-place
invariant-loop-place l =
    class_from l.label 1 l.users.groups l.users.users
    ≡ class_from l.label (l.place + 1) l.users.groups (drop l.place l.users.users)
