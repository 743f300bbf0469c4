-- Proves the goals of `write_in` of src/linked.rt that the search leaves open.
use Rattle.std.proofs.Common.{Option, IsSome, sym, ap, ◌∙◌, ◌&&◌, subst}
use Rattle.histar_level.specs.Levels.{Levels}
use Rattle.histar_label.specs.Levels.{is_below, is_below_raised}
use Rattle.histar_label.specs.Store.{label_at}
use Rattle.histar_rules.specs.declared.raw.Denied.{Denied}
use Rattle.histar_rules.specs.Rules.{FailsAt}
use Rattle.histar_rules.proofs.Observed.{fails_at_denial, label_stands}
use Rattle.histar_rules.proofs.LinkedObjects.{segment_missing, write_found}
use Rattle.histar_rules.proofs.linked.write_in.Goals as goal

pub returns-in_err-label-clause-answer : goal.returns-in_err-label-clause-answer
returns-in_err-label-clause-answer g c =
    fails_at_denial _ _ _ c.from_residual-in_err-label.ensures.1
    (segment_missing (g.S.LabelStore.labels c.args.store.now) c.args.table.now c.args.access.now.thread c.args.access.now.container
    c.args.access.now.object c.in_ok-found.ensures.answer _ _ c.in_err-label.ensures.answer)

pub modifies_by-modifies-requires-clause-own : goal.modifies_by-modifies-requires-clause-own
modifies_by-modifies-requires-clause-own g c =
    subst (λ (labels : g.row.S-Id.Denot → Option Levels). IsSome (labels c.in_ok-found.found.own)) (sym c.in_ok-found.ensures.unchanged)
    (label_stands _ c.args.table.now c.requires _ _ c.in_ok-found.ensures.thread)

pub modifies_by-modifies-requires-clause-label : goal.modifies_by-modifies-requires-clause-label
modifies_by-modifies-requires-clause-label g c =
    subst (λ (labels : g.row.S-Id.Denot → Option Levels). IsSome (labels c.in_ok-label.label)) (sym c.in_ok-found.ensures.unchanged)
    (label_stands _ c.args.table.now c.requires _ _ c.in_ok-label.ensures.found)

pub returns-clause-answer : goal.returns-clause-answer
returns-clause-answer g c =
    let found = c.in_ok-found.found in
    let label = c.in_ok-label.label in
    subst (λ (f : Option Denied). FailsAt f c.check_change.result) (sym
    (write_found (g.S.LabelStore.labels c.args.store.now) c.args.table.now c.args.access.now.thread c.args.access.now.container
    c.args.access.now.object c.in_ok-found.ensures.answer found.own found.own_clearance c.in_ok-found.ensures.thread c.args.keep
    c.args.bytes.now label c.in_ok-label.held.now c.modifies_by-modifies.result c.len.result c.len-2.result c.in_ok-label.ensures.found
    (c.modifies_by-modifies.ensures.answer
    ∙ ap (λ (labels : g.row.S-Id.Denot → Option Levels). is_below (label_at labels found.own) (label_at labels label)
    && is_below_raised (label_at labels label) (label_at labels found.own)) c.in_ok-found.ensures.unchanged)
    c.len.ensures c.len-2.ensures)) c.check_change.ensures
