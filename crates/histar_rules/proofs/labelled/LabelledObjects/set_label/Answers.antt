-- Proves the goals of `LabelledObjects::set_label` of src/labelled.rt that the search leaves open.
use Rattle.std.proofs.Common.{◌≡◌, ◌∙◌, subst}
use Rattle.histar_object.specs.State.{State}
use Rattle.histar_container.specs.ObjectsModel.{state_of}
use Rattle.histar_rules.specs.declared.raw.RawCall.TheVariants.{SetLabel}
use Rattle.histar_rules.specs.Finds.{state_with}
use Rattle.histar_rules.specs.Rules.{check, FailsAtUnlessExhausted}
use Rattle.histar_object.specs.Objects.{objects_of}
use Rattle.histar_container.proofs.Keeping.{kept_changed}
use Rattle.histar_rules.proofs.labelled.LabelledObjects.set_label.Goals as goal

pub invariant_of-self : goal.invariant_of-self
invariant_of-self g c =
    kept_changed _ _ _ _ _ _ _
    c.set_label_in.ensures.stand c.self.invariant.unused c.self.invariant.positive c.set_label_in.ensures.ok c.set_label_in.ensures.err

pub returns-clause-answer : goal.returns-clause-answer
returns-clause-answer g c =
    let same : state_with (g.S.LabelStore.labels c.self.inside.store) c.self.inside.table c.next-next.result ≡ state_of c.args.self.now =
    (λ i. record {
      objects = objects_of (c.self.view_is i).objects;
      next_object = c.next-next.ensures.object i;
      next_category = c.next-next.ensures.category i;
    })
    ∙ c.forget_unused_labels.ensures in
    subst (λ (s : State). FailsAtUnlessExhausted (check s c.args.thread (SetLabel c.args.label.now)) c.set_label_in.result) same
    c.set_label_in.ensures.answer
