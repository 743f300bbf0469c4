-- Proves the goals of `LabelledObjects::own` of src/labelled.rt that the search leaves open.
use Rattle.histar_object.specs.Objects.{thread_of}
use Rattle.histar_container.proofs.Keeping.{copied_some}
use Rattle.histar_rules.proofs.Observed.{label_stands, clearance_stands}
use Rattle.histar_rules.proofs.labelled.LabelledObjects.own.Goals as goal

pub unwrap-label-requires : goal.unwrap-label-requires
unwrap-label-requires g c =
    copied_some _ _ c.get.ensures (label_stands _ c.self.inside.table c.self.invariant.stand _ (thread_of _ _) c.in-Some.ensures)

pub unwrap-clearance-requires : goal.unwrap-clearance-requires
unwrap-clearance-requires g c =
    copied_some _ _ c.get-2.ensures (clearance_stands _ c.self.inside.table c.self.invariant.stand _ _ _ c.in-Some.ensures)
