-- Proves the goals of `LabelledObjects::enter` of src/labelled.rt that the search leaves open.
use Rattle.std.proofs.Common.{◌≡◌, ◌∙◌, ap, Some, IfOk, subst}
use Rattle.histar_object.specs.State.{State}
use Rattle.histar_container.specs.ObjectsModel.{state_of}
use Rattle.histar_rules.specs.declared.raw.RawCall.TheVariants.{Enter}
use Rattle.histar_rules.specs.Finds.{state_with}
use Rattle.histar_rules.specs.Rules.{check, FailsAtUnlessExhausted}
use Rattle.histar_object.specs.Objects.{objects_of, entry_there}
use Rattle.histar_rules.proofs.EnteringGates.{kept_entered}
use Rattle.histar_rules.proofs.labelled.LabelledObjects.enter.Goals as goal

pub invariant_of-self : goal.invariant_of-self
invariant_of-self g c =
    kept_entered (g.S.LabelStore.labels c.self.inside.store) _ c.self.inside.table
    _ c.next-next.result _ _ c.args.access.now.container c.args.access.now.object _ _ c.args.labels.verify.now _
    c.enter_in.ensures.stand c.self.invariant.unused c.self.invariant.positive c.enter_in.ensures.answer c.enter_in.ensures.ok c.enter_in.ensures.err

pub returns-clause-answer : goal.returns-clause-answer
returns-clause-answer g c =
    let same : state_with (g.S.LabelStore.labels c.self.inside.store) c.self.inside.table c.next-next.result ≡ state_of c.args.self.now =
    (λ i. record {
      objects = objects_of (c.self.view_is i).objects;
      next_object = c.next-next.ensures.object i;
      next_category = c.next-next.ensures.category i;
    })
    ∙ c.forget_unused_labels.ensures in
    subst (λ (s : State). FailsAtUnlessExhausted (check s c.args.access.now.thread (Enter c.args.access.now.container c.args.access.now.object
    c.args.labels.wanted.now c.args.labels.clearance.now c.args.labels.verify.now)) c.enter_in.result) same c.enter_in.ensures.answer

pub returns-clause-entry : goal.returns-clause-entry
returns-clause-entry g c =
    subst (λ (s : State). IfOk c.enter_in.result (λ entry. Some entry ≡ entry_there (s.objects c.args.access.now.object)))
    (ap state_of c.self.view_is ∙ c.forget_unused_labels.ensures) c.enter_in.ensures.entry
