-- Proves the goals of `set_label_in` of src/own.rt that the search leaves open.
use Rattle.std.proofs.Common.{Option, ap, ◌∙◌}
use Rattle.histar_level.specs.Levels.{Levels}
use Rattle.histar_container.proofs.Keeping.{all_on, shown_on, on_err}
use Rattle.histar_rules.specs.declared.raw.RawCall.TheVariants as calls
use Rattle.histar_rules.proofs.OwnLabels.{refused_at_denial, keeps_same, check_put}
use Rattle.histar_rules.proofs.Relabelled.{label_stand, label_shown}
use Rattle.histar_rules.proofs.own.set_label_in.Goals as goal

pub returns-in_err-id-clause-stand : goal.returns-in_err-id-clause-stand
returns-in_err-id-clause-stand g c =
    all_on _ _ c.put_copy.ensures.keeps _ c.requires

pub returns-in_err-id-clause-err : goal.returns-in_err-id-clause-err
returns-in_err-id-clause-err g c =
    on_err _ _ (shown_on _ _ c.put_copy.ensures.keeps c.args.table.now c.requires)

pub check_label_in-requires-clause-stand : goal.check_label_in-requires-clause-stand
check_label_in-requires-clause-stand g c =
    all_on _ _ c.put_copy.ensures.keeps _ c.requires

pub returns-in_err-check_label_in-clause-stand : goal.returns-in_err-check_label_in-clause-stand
returns-in_err-check_label_in-clause-stand g c =
    all_on _ _ (keeps_same _ _ c.put_copy.ensures.keeps _ c.check_label_in.ensures.unchanged) _ c.requires

pub returns-in_err-check_label_in-clause-answer : goal.returns-in_err-check_label_in-clause-answer
returns-in_err-check_label_in-clause-answer g c =
    refused_at_denial _ _ _ c.from_residual-in_err-check_label_in.ensures.1
    (check_put _ _ c.put_copy.ensures.keeps c.args.table.now c.args.thread c.args.next calls.SetLabel _ _
    c.requires c.in_ok-id.ensures.stands ∙ c.in_err-check_label_in.ensures.answer)

pub returns-in_err-check_label_in-clause-err : goal.returns-in_err-check_label_in-clause-err
returns-in_err-check_label_in-clause-err g c =
    on_err _ _ (shown_on _ _ (keeps_same _ _ c.put_copy.ensures.keeps _ c.check_label_in.ensures.unchanged) c.args.table.now c.requires)

pub returns-clause-stand : goal.returns-clause-stand
returns-clause-stand g c =
    label_stand _ _ (keeps_same _ _ c.put_copy.ensures.keeps _ c.check_label_in.ensures.unchanged)
    c.args.table.now c.give_label.new.table _ c.requires _ _
    (ap (λ (labels : g.row.S-Id.Denot → Option Levels). labels c.in_ok-id.id) c.check_label_in.ensures.unchanged ∙ c.in_ok-id.ensures.stands)
    c.give_label.ensures

pub returns-clause-answer : goal.returns-clause-answer
returns-clause-answer g c =
    check_put _ _ c.put_copy.ensures.keeps c.args.table.now c.args.thread c.args.next calls.SetLabel _ _
    c.requires c.in_ok-id.ensures.stands ∙ c.in_ok-check_label_in.ensures.answer

pub returns-clause-ok : goal.returns-clause-ok
returns-clause-ok g c =
    label_shown _ _ (keeps_same _ _ c.put_copy.ensures.keeps _ c.check_label_in.ensures.unchanged)
    c.args.table.now c.give_label.new.table _ c.requires _ _
    (ap (λ (labels : g.row.S-Id.Denot → Option Levels). labels c.in_ok-id.id) c.check_label_in.ensures.unchanged ∙ c.in_ok-id.ensures.stands)
    c.give_label.ensures
