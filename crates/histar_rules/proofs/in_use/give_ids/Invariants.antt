-- The invariants and measures of `give_ids` of src/in_use.rt.
use Rattle.histar_object.specs.Objects.{objects_of}
use Rattle.histar_rules.proofs.Moving.{AreMoved}
use Rattle.histar_rules.proofs.in_use.give_ids.Given as goal

abbrev pub invariant-objects : goal.invariant-objects
invariant-objects g l =
    AreMoved (g.S.LabelStore.labels l.store) (g.S.LabelStore.labels l.fresh) (objects_of l.initial.table) (objects_of l.table) l.number
