-- Proves the goals of `LabelledObjects::label_of` of src/labelled.rt that the search leaves open.
use Rattle.std.proofs.Common.{Option, IsSome, sym, ◌∙◌, subst}
use Rattle.histar_level.specs.Levels.{Levels}
use Rattle.histar_object.specs.Objects.{objects_of}
use Rattle.histar_container.specs.ObjectsModel.{ObjectsModel}
use Rattle.histar_container.specs.Tree.{AreTree}
use Rattle.histar_container.proofs.Keeping.{copied_some}
use Rattle.histar_rules.specs.Finds.{state_shown}
use Rattle.histar_rules.proofs.Passing.{label_revealed}
use Rattle.histar_rules.proofs.LinkedObjects.{no_label_shown, found_stands}
use Rattle.histar_rules.proofs.labelled.LabelledObjects.label_of.Goals as goal

pub returns-in_default-clause-ok : goal.returns-in_default-clause-ok
returns-in_default-clause-ok g c =
    let labels = g.S.LabelStore.labels c.self.inside.store in
    absurd (label_revealed (state_shown labels c.self.inside.table) _ _ _
    (subst (λ (k : ObjectsModel). AreTree (objects_of k.objects)) (sym c.self.view_is) c.requires) c.in_ok-label.ensures.answer
    (no_label_shown labels c.self.inside.table c.args.access.now.object (sym c.in_ok-label.ensures.label ∙ c.in_default.is)))

pub unwrap-requires : goal.unwrap-requires
unwrap-requires g c =
    copied_some _ _ c.get.ensures
    (subst (λ (labels : g.row.S-Id.Denot → Option Levels). IsSome (labels c.in-Some.label)) (sym c.in_ok-label.ensures.unchanged)
    (found_stands _ c.self.inside.table c.self.invariant.stand _ _ (sym c.in_ok-label.ensures.label ∙ c.in-Some.is)))
