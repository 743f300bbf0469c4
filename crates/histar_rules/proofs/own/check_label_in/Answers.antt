-- Proves the goals of `check_label_in` of src/own.rt that the search leaves open.
use Rattle.std.proofs.Common.{Option, sym, subst}
use Rattle.histar_label.specs.Store.{label_at}
use Rattle.histar_rules.specs.declared.raw.Denied.{Denied}
use Rattle.histar_rules.specs.Rules.{FailsAt}
use Rattle.histar_rules.proofs.Observed.{label_stands, clearance_stands}
use Rattle.histar_rules.proofs.OwnLabels.{label_of_none, label_ranged}
use Rattle.histar_rules.proofs.own.check_label_in.Goals as goal

pub returns-in_default-clause-answer : goal.returns-in_default-clause-answer
returns-in_default-clause-answer g c =
    label_of_none (g.S.LabelStore.labels c.args.store.now) c.args.table.now c.args.thread c.args.next _ c.in_default.ensures

pub check_range-requires-clause-own : goal.check_range-requires-clause-own
check_range-requires-clause-own g c =
    label_stands _ c.args.table.now c.requires.stand _ _ c.in-Some.ensures

pub check_range-requires-clause-own_clearance : goal.check_range-requires-clause-own_clearance
check_range-requires-clause-own_clearance g c =
    clearance_stands _ c.args.table.now c.requires.stand _ _ _ c.in-Some.ensures

pub returns-clause-answer : goal.returns-clause-answer
returns-clause-answer g c =
    subst (λ (f : Option Denied). FailsAt f c.check_range.result)
    (sym (label_ranged (g.S.LabelStore.labels c.args.store.now) c.args.table.now c.args.thread c.args.next
    (label_at (g.S.LabelStore.labels c.args.store.now) c.args.label) _ _ c.in-Some.ensures)) c.check_range.ensures.answer
