-- The invariants and measures of `labels_in_use` of src/in_use.rt.
use Rattle.histar_object.specs.Objects.{objects_of}
use Rattle.histar_rules.specs.InUse.{HaveLabelsIn}
use Rattle.histar_rules.proofs.in_use.labels_in_use.Given as goal

abbrev pub invariant-objects : goal.invariant-objects
invariant-objects g l =
    HaveLabelsIn (g.S.LabelStore.labels l.store) (g.S.LabelStore.labels l.fresh) (objects_of l.table) l.number
