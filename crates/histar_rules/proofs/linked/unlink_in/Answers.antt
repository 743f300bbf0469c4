-- Proves the goals of `unlink_in` of src/linked.rt that the search leaves open.
use Rattle.std.proofs.Common.{Option, IsSome, sym, ap, ◌∙◌, subst}
use Rattle.histar_base.specs.Refusals.{unless}
use Rattle.histar_level.specs.Levels.{Levels}
use Rattle.histar_label.specs.Levels.{is_below}
use Rattle.histar_label.specs.Store.{label_at}
use Rattle.histar_rules.specs.declared.raw.Denied.TheVariants.{Modify}
use Rattle.histar_rules.proofs.Observed.{label_stands}
use Rattle.histar_rules.proofs.LinkedObjects.{unlink_found}
use Rattle.histar_rules.proofs.linked.unlink_in.Goals as goal

pub below-requires-clause-lower_stands : goal.below-requires-clause-lower_stands
below-requires-clause-lower_stands g c =
    subst (λ (labels : g.row.S-Id.Denot → Option Levels). IsSome (labels c.in_ok-found.found.own)) (sym c.in_ok-found.ensures.unchanged)
    (label_stands _ c.args.table.now c.requires _ _ c.in_ok-found.ensures.thread)

pub below-requires-clause-upper_stands : goal.below-requires-clause-upper_stands
below-requires-clause-upper_stands g c =
    subst (λ (labels : g.row.S-Id.Denot → Option Levels). IsSome (labels c.in_ok-found.found.label)) (sym c.in_ok-found.ensures.unchanged)
    (label_stands _ c.args.table.now c.requires _ _ c.in_ok-found.ensures.container)

pub returns-then-below-clause-answer : goal.returns-then-below-clause-answer
returns-then-below-clause-answer g c =
    unlink_found (g.S.LabelStore.labels c.args.store.now) c.args.table.now c.args.access.now.thread c.args.access.now.container
    c.args.access.now.object c.in_ok-found.ensures.answer _ _ c.in_ok-found.ensures.thread _ _ _ c.in_ok-found.ensures.container
    (c.below.ensures.answer
    ∙ ap (λ (labels : g.row.S-Id.Denot → Option Levels).
    is_below (label_at labels c.in_ok-found.found.own) (label_at labels c.in_ok-found.found.label)) c.in_ok-found.ensures.unchanged)
    ∙ ap (λ b. unless b Modify) c.if-below.true

pub returns-else-below-clause-answer : goal.returns-else-below-clause-answer
returns-else-below-clause-answer g c =
    unlink_found (g.S.LabelStore.labels c.args.store.now) c.args.table.now c.args.access.now.thread c.args.access.now.container
    c.args.access.now.object c.in_ok-found.ensures.answer _ _ c.in_ok-found.ensures.thread _ _ _ c.in_ok-found.ensures.container
    (c.below.ensures.answer
    ∙ ap (λ (labels : g.row.S-Id.Denot → Option Levels).
    is_below (label_at labels c.in_ok-found.found.own) (label_at labels c.in_ok-found.found.label)) c.in_ok-found.ensures.unchanged)
    ∙ ap (λ b. unless b Modify) c.if-below.false
