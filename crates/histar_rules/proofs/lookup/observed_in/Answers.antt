-- Proves the goals of `observed_in` of src/lookup.rt that the search leaves open.
use Rattle.std.proofs.Common.{ap, ◌∙◌}
use Rattle.histar_object.specs.Objects.{thread_of}
use Rattle.histar_rules.specs.declared.raw.Denied.TheVariants.{Observe}
use Rattle.histar_base.specs.Refusals.{unless}
use Rattle.histar_rules.proofs.Observed.{fails_at_denial, thread_missing, container_missing, container_found, label_stands}
use Rattle.histar_rules.proofs.lookup.observed_in.Goals as goal

pub returns-in_default-clause-answer : goal.returns-in_default-clause-answer
returns-in_default-clause-answer g c =
    thread_missing (g.S.LabelStore.labels c.args.store.now) c.args.table.now c.args.thread c.args.container c.in_default.ensures

pub returns-in_err-label-clause-answer : goal.returns-in_err-label-clause-answer
returns-in_err-label-clause-answer g c =
    fails_at_denial _ _ _ c.from_residual.ensures.1
    (container_missing (g.S.LabelStore.labels c.args.store.now) c.args.table.now c.args.thread c.args.container _ _ _
    c.in-Some.ensures c.in_err-label.ensures.answer)

pub below_raised-requires-clause-lower_stands : goal.below_raised-requires-clause-lower_stands
below_raised-requires-clause-lower_stands g c =
    label_stands _ c.args.table.now c.requires _ _ c.in_ok-label.ensures.found

pub below_raised-requires-clause-upper_stands : goal.below_raised-requires-clause-upper_stands
below_raised-requires-clause-upper_stands g c =
    label_stands _ c.args.table.now c.requires _ (thread_of _ _) c.in-Some.ensures

pub returns-then-below_raised-clause-answer : goal.returns-then-below_raised-clause-answer
returns-then-below_raised-clause-answer g c =
    container_found (g.S.LabelStore.labels c.args.store.now) c.args.table.now c.args.thread c.args.container _ _
    _ _ _ c.in-Some.ensures c.in_ok-label.ensures.found c.below_raised.ensures.answer
    ∙ ap (λ b. unless b Observe) c.if-below_raised.true

pub returns-else-below_raised-clause-answer : goal.returns-else-below_raised-clause-answer
returns-else-below_raised-clause-answer g c =
    container_found (g.S.LabelStore.labels c.args.store.now) c.args.table.now c.args.thread c.args.container _ _
    _ _ _ c.in-Some.ensures c.in_ok-label.ensures.found c.below_raised.ensures.answer
    ∙ ap (λ b. unless b Observe) c.if-below_raised.false
