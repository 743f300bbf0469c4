-- Proves the goals of `LabelledObjects::check_new` of src/labelled.rt that the search leaves open.
use Rattle.std.proofs.Common.{◌≡◌, Option, IsSome, sym, ap, ◌∙◌, subst}
use Rattle.histar_level.specs.Levels.{Levels}
use Rattle.histar_label.specs.Store.{label_at}
use Rattle.histar_object.specs.Objects.{objects_of}
use Rattle.histar_object.specs.State.{State}
use Rattle.histar_container.specs.ObjectsModel.{state_of}
use Rattle.histar_rules.specs.declared.raw.Denied.{Denied}
use Rattle.histar_rules.specs.Finds.{state_with}
use Rattle.histar_rules.specs.Rules.{no_new, FailsAt}
use Rattle.histar_rules.proofs.Observed.{label_stands, clearance_stands}
use Rattle.histar_rules.proofs.LinkedObjects.{new_found}
use Rattle.histar_rules.proofs.labelled.LabelledObjects.check_new.Goals as goal

pub labels_in-requires-clause-first : goal.labels_in-requires-clause-first
labels_in-requires-clause-first g c =
    subst (λ (labels : g.row.S-Id.Denot → Option Levels). IsSome (labels c.in_ok-found.found.own)) (sym c.in_ok-found.ensures.unchanged)
    (label_stands _ c.self.inside.table c.self.invariant.stand _ _ c.in_ok-found.ensures.thread)

pub labels_in-requires-clause-second : goal.labels_in-requires-clause-second
labels_in-requires-clause-second g c =
    subst (λ (labels : g.row.S-Id.Denot → Option Levels). IsSome (labels c.in_ok-found.found.own_clearance)) (sym c.in_ok-found.ensures.unchanged)
    (clearance_stands _ c.self.inside.table c.self.invariant.stand _ _ _ c.in_ok-found.ensures.thread)

pub returns-clause-answer : goal.returns-clause-answer
returns-clause-answer g c =
    let found = c.in_ok-found.found in
    let kept = c.in_ok-found.ensures.unchanged in
    let same : state_with (g.S.LabelStore.labels c.self.inside.store) c.self.inside.table c.next-next.result ≡ state_of c.args.self.now =
    λ i. record {
      objects = objects_of (c.self.view_is i).objects;
      next_object = c.next-next.ensures.object i;
      next_category = c.next-next.ensures.category i;
    } in
    subst (λ (f : Option Denied). FailsAt f c.check_new.result)
    (sym (new_found (g.S.LabelStore.labels c.self.inside.store) c.self.inside.table c.args.maker.now.thread c.args.maker.now.container _
    _ c.in_ok-found.ensures.answer c.in_ok-found.ensures.thread c.next-next.result _ c.args.size _ _
    (c.labels_in.ensures.first ∙ ap (λ (labels : g.row.S-Id.Denot → Option Levels). label_at labels found.own) kept)
    (c.labels_in.ensures.second ∙ ap (λ (labels : g.row.S-Id.Denot → Option Levels). label_at labels found.own_clearance) kept))
    ∙ ap (λ (s : State). no_new s c.args.maker.now.thread c.args.maker.now.container c.args.label.now c.args.size) same) c.check_new.ensures
