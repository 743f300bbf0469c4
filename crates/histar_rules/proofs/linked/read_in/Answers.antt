-- Proves the goals of `read_in` of src/linked.rt that the search leaves open.
use Rattle.std.proofs.Common.{Option, IsSome, sym, ap, ◌∙◌, subst}
use Rattle.histar_base.specs.Refusals.{unless}
use Rattle.histar_level.specs.Levels.{Levels}
use Rattle.histar_label.specs.Levels.{is_below_raised}
use Rattle.histar_label.specs.Store.{label_at}
use Rattle.histar_rules.specs.declared.raw.Denied.TheVariants.{Observe}
use Rattle.histar_rules.proofs.Observed.{fails_at_denial, label_stands}
use Rattle.histar_rules.proofs.LinkedObjects.{segment_missing, read_found}
use Rattle.histar_rules.proofs.linked.read_in.Goals as goal

pub returns-in_err-label-clause-answer : goal.returns-in_err-label-clause-answer
returns-in_err-label-clause-answer g c =
    fails_at_denial _ _ _ c.from_residual-in_err-label.ensures.1
    (segment_missing (g.S.LabelStore.labels c.args.store.now) c.args.table.now c.args.access.now.thread c.args.access.now.container
    c.args.access.now.object c.in_ok-found.ensures.answer _ _ c.in_err-label.ensures.answer)

pub below_raised-requires-clause-lower_stands : goal.below_raised-requires-clause-lower_stands
below_raised-requires-clause-lower_stands g c =
    subst (λ (labels : g.row.S-Id.Denot → Option Levels). IsSome (labels c.in_ok-label.label)) (sym c.in_ok-found.ensures.unchanged)
    (label_stands _ c.args.table.now c.requires _ _ c.in_ok-label.ensures.found)

pub below_raised-requires-clause-upper_stands : goal.below_raised-requires-clause-upper_stands
below_raised-requires-clause-upper_stands g c =
    subst (λ (labels : g.row.S-Id.Denot → Option Levels). IsSome (labels c.in_ok-found.found.own)) (sym c.in_ok-found.ensures.unchanged)
    (label_stands _ c.args.table.now c.requires _ _ c.in_ok-found.ensures.thread)

pub returns-then-below_raised-clause-answer : goal.returns-then-below_raised-clause-answer
returns-then-below_raised-clause-answer g c =
    read_found (g.S.LabelStore.labels c.args.store.now) c.args.table.now c.args.access.now.thread c.args.access.now.container c.args.access.now.object
    c.in_ok-found.ensures.answer _ _ c.in_ok-found.ensures.thread _ _ _ c.in_ok-label.ensures.found (c.below_raised.ensures.answer
    ∙ ap (λ (labels : g.row.S-Id.Denot → Option Levels).
    is_below_raised (label_at labels c.in_ok-label.label) (label_at labels c.in_ok-found.found.own)) c.in_ok-found.ensures.unchanged)
    ∙ ap (λ b. unless b Observe) c.if-below_raised.true

pub returns-else-below_raised-clause-answer : goal.returns-else-below_raised-clause-answer
returns-else-below_raised-clause-answer g c =
    read_found (g.S.LabelStore.labels c.args.store.now) c.args.table.now c.args.access.now.thread c.args.access.now.container c.args.access.now.object
    c.in_ok-found.ensures.answer _ _ c.in_ok-found.ensures.thread _ _ _ c.in_ok-label.ensures.found (c.below_raised.ensures.answer
    ∙ ap (λ (labels : g.row.S-Id.Denot → Option Levels).
    is_below_raised (label_at labels c.in_ok-label.label) (label_at labels c.in_ok-found.found.own)) c.in_ok-found.ensures.unchanged)
    ∙ ap (λ b. unless b Observe) c.if-below_raised.false
