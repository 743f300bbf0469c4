-- Proves the goals of `enter_in` of src/entering.rt that the search leaves open.
use Rattle.std.proofs.Common.{Option, ap, ◌∙◌}
use Rattle.std.specs.Prelude.{is_some}
use Rattle.histar_level.specs.Levels.{Levels}
use Rattle.histar_label.specs.Store.{Keeps}
use Rattle.histar_object.specs.Objects.{Objects, entry_there}
use Rattle.histar_container.proofs.Keeping.{trans, all_on, shown_on, on_err}
use Rattle.histar_rules.proofs.OwnLabels.{refused_at_denial, keeps_same}
use Rattle.histar_rules.proofs.EnteringGates.{check_put_both, own_stand, own_shown}
use Rattle.histar_rules.proofs.entering.enter_in.Given as given
use Rattle.histar_rules.proofs.entering.enter_in.Goals as goal

pub returns-in_err-clearance-clause-stand : goal.returns-in_err-clearance-clause-stand
returns-in_err-clearance-clause-stand g c = all_on _ _ c.put_copy.ensures.keeps _ c.requires

pub returns-in_err-clearance-clause-err : goal.returns-in_err-clearance-clause-err
returns-in_err-clearance-clause-err g c = on_err _ _ (shown_on _ _ c.put_copy.ensures.keeps c.args.table.now c.requires)

pub returns-in_err-label-clause-stand : goal.returns-in_err-label-clause-stand
returns-in_err-label-clause-stand g c = all_on _ _ (trans _ _ _ c.put_copy.ensures.keeps c.put_copy-2.ensures.keeps) _ c.requires

pub returns-in_err-label-clause-err : goal.returns-in_err-label-clause-err
returns-in_err-label-clause-err g c =
    on_err _ _ (shown_on _ _ (trans _ _ _ c.put_copy.ensures.keeps c.put_copy-2.ensures.keeps) c.args.table.now c.requires)

pub check_enter_in-requires-clause-stand : goal.check_enter_in-requires-clause-stand
check_enter_in-requires-clause-stand g c = all_on _ _ (trans _ _ _ c.put_copy.ensures.keeps c.put_copy-2.ensures.keeps) _ c.requires

pub check_enter_in-requires-clause-wanted : goal.check_enter_in-requires-clause-wanted
check_enter_in-requires-clause-wanted g c =
    ap is_some c.in_ok-label.ensures.stands

pub check_enter_in-requires-clause-clearance : goal.check_enter_in-requires-clause-clearance
check_enter_in-requires-clause-clearance g c =
    ap is_some (c.put_copy-2.ensures.keeps c.in_ok-clearance.clearance c.args.labels.clearance.now c.in_ok-clearance.ensures.stands)

pub returns-in_err-entry-clause-stand : goal.returns-in_err-entry-clause-stand
returns-in_err-entry-clause-stand g c =
    all_on _ _ (keeps_same _ _ (trans _ _ _ c.put_copy.ensures.keeps c.put_copy-2.ensures.keeps) _ c.check_enter_in.ensures.unchanged) _ c.requires

pub returns-in_err-entry-clause-answer : goal.returns-in_err-entry-clause-answer
returns-in_err-entry-clause-answer g c =
    refused_at_denial _ _ _ c.from_residual-in_err-entry.ensures.1
    (check_put_both _ _ (trans _ _ _ c.put_copy.ensures.keeps c.put_copy-2.ensures.keeps) c.args.table.now _ c.requires _ _ _ _
    c.in_ok-label.ensures.stands (c.put_copy-2.ensures.keeps _ _ c.in_ok-clearance.ensures.stands) c.args.next _ _ _
    ∙ c.in_err-entry.ensures.answer)

pub returns-in_err-entry-clause-err : goal.returns-in_err-entry-clause-err
returns-in_err-entry-clause-err g c =
    on_err _ _ (shown_on _ _ (keeps_same _ _ (trans _ _ _ c.put_copy.ensures.keeps c.put_copy-2.ensures.keeps) _ c.check_enter_in.ensures.unchanged)
    c.args.table.now c.requires)

-- the labels that were put keep their Ids through the checks
kept : (g : given.Over) (c : goal.After-give_own g)
    → Keeps (g.S.LabelStore.labels c.args.store.now) (g.S.LabelStore.labels c.check_enter_in.new.store)
kept g c = keeps_same _ _ (trans _ _ _ c.put_copy.ensures.keeps c.put_copy-2.ensures.keeps) _ c.check_enter_in.ensures.unchanged

pub returns-clause-stand : goal.returns-clause-stand
returns-clause-stand g c =
    own_stand _ _ (kept g c) c.args.table.now _ c.requires _ _ _ _
    (ap (λ (labels : g.row.S-Id.Denot → Option Levels). labels c.in_ok-label.label) c.check_enter_in.ensures.unchanged
    ∙ c.in_ok-label.ensures.stands)
    (ap (λ (labels : g.row.S-Id.Denot → Option Levels). labels c.in_ok-clearance.clearance) c.check_enter_in.ensures.unchanged
    ∙ c.put_copy-2.ensures.keeps _ _ c.in_ok-clearance.ensures.stands) c.give_own.new.table c.give_own.ensures

pub returns-clause-answer : goal.returns-clause-answer
returns-clause-answer g c =
    check_put_both _ _ (trans _ _ _ c.put_copy.ensures.keeps c.put_copy-2.ensures.keeps) c.args.table.now _ c.requires _ _ _ _
    c.in_ok-label.ensures.stands (c.put_copy-2.ensures.keeps _ _ c.in_ok-clearance.ensures.stands) c.args.next _ _ _
    ∙ c.in_ok-entry.ensures.answer

pub returns-clause-ok : goal.returns-clause-ok
returns-clause-ok g c =
    own_shown _ _ (kept g c) c.args.table.now _ c.requires _ _ _ _
    (ap (λ (labels : g.row.S-Id.Denot → Option Levels). labels c.in_ok-label.label) c.check_enter_in.ensures.unchanged
    ∙ c.in_ok-label.ensures.stands)
    (ap (λ (labels : g.row.S-Id.Denot → Option Levels). labels c.in_ok-clearance.clearance) c.check_enter_in.ensures.unchanged
    ∙ c.put_copy-2.ensures.keeps _ _ c.in_ok-clearance.ensures.stands) c.give_own.new.table c.give_own.ensures

pub returns-clause-entry : goal.returns-clause-entry
returns-clause-entry g c =
    c.in_ok-entry.ensures.entry
    ∙ ap (λ (objects : Objects Levels). entry_there (objects c.args.access.now.object))
    (shown_on _ _ (trans _ _ _ c.put_copy.ensures.keeps c.put_copy-2.ensures.keeps) c.args.table.now c.requires)
