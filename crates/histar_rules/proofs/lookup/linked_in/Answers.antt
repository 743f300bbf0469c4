-- Proves the goals of `linked_in` of src/lookup.rt that the search leaves open.
use Rattle.std.proofs.Common.{ap, ◌∙◌}
use Rattle.histar_base.specs.Refusals.{unless}
use Rattle.histar_rules.specs.declared.raw.Denied.TheVariants.{NoEntry}
use Rattle.histar_rules.proofs.Observed.{behind_refusal, linking_found}
use Rattle.histar_rules.proofs.lookup.linked_in.Goals as goal

pub returns-in_err-found-clause-answer : goal.returns-in_err-found-clause-answer
returns-in_err-found-clause-answer g c = behind_refusal _ _ _ _ c.in_err-found.ensures.answer c.from_residual.ensures.1

pub returns-then-contains-clause-answer : goal.returns-then-contains-clause-answer
returns-then-contains-clause-answer g c =
    linking_found (g.S.LabelStore.labels c.args.store.now) c.args.table.now c.args.access.now.thread c.args.access.now.container _
    _ _ _ c.in_ok-found.ensures.answer c.in_ok-found.ensures.container c.contains.ensures
    ∙ ap (λ b. unless b NoEntry) c.if-contains.true

pub returns-else-contains-clause-answer : goal.returns-else-contains-clause-answer
returns-else-contains-clause-answer g c =
    linking_found (g.S.LabelStore.labels c.args.store.now) c.args.table.now c.args.access.now.thread c.args.access.now.container _
    _ _ _ c.in_ok-found.ensures.answer c.in_ok-found.ensures.container c.contains.ensures
    ∙ ap (λ b. unless b NoEntry) c.if-contains.false
