-- Proves the goals of `set_own_in` of src/labelled.rt that the search leaves open.
use Rattle.std.proofs.Common.{sym, ap, ◌∙◌}
use Rattle.histar_object.specs.Objects.{is_thread}
use Rattle.histar_container.proofs.Keeping.{trans, all_on, shown_on, on_err}
use Rattle.histar_container.proofs.Shows.{shows}
use Rattle.histar_rules.proofs.EnteringGates.{own_stand, own_shown}
use Rattle.histar_rules.proofs.Observed.{thread_by}
use Rattle.histar_rules.proofs.labelled.set_own_in.Goals as goal

pub returns-in_err-clearance-clause-stand : goal.returns-in_err-clearance-clause-stand
returns-in_err-clearance-clause-stand g c =
    all_on _ _ c.put.ensures.keeps _ c.requires.stand

pub returns-in_err-clearance-clause-err : goal.returns-in_err-clearance-clause-err
returns-in_err-clearance-clause-err g c =
    on_err _ _ (shown_on _ _ c.put.ensures.keeps c.args.table.now c.requires.stand)

pub returns-in_err-label-clause-stand : goal.returns-in_err-label-clause-stand
returns-in_err-label-clause-stand g c =
    all_on _ _ (trans _ _ _ c.put.ensures.keeps c.put-2.ensures.keeps) _ c.requires.stand

pub returns-in_err-label-clause-err : goal.returns-in_err-label-clause-err
returns-in_err-label-clause-err g c =
    on_err _ _ (shown_on _ _ (trans _ _ _ c.put.ensures.keeps c.put-2.ensures.keeps) c.args.table.now c.requires.stand)

pub give_own-requires : goal.give_own-requires
give_own-requires g c =
    let labels = g.S.LabelStore.labels c.args.store.now in
    sym (ap is_thread (shows labels c.args.table.now c.args.thread) ∙ thread_by labels c.args.table.now _)
    ∙ c.requires.is_there

pub returns-clause-stand : goal.returns-clause-stand
returns-clause-stand g c =
    own_stand _ _ (trans _ _ _ c.put.ensures.keeps c.put-2.ensures.keeps) c.args.table.now _ c.requires.stand _ _ _ _ c.in_ok-label.ensures.stands
    (c.put-2.ensures.keeps c.in_ok-clearance.clearance c.args.clearance c.in_ok-clearance.ensures.stands) c.give_own.new.table c.give_own.ensures

pub returns-clause-ok : goal.returns-clause-ok
returns-clause-ok g c =
    own_shown _ _ (trans _ _ _ c.put.ensures.keeps c.put-2.ensures.keeps) c.args.table.now _ c.requires.stand _ _ _ _ c.in_ok-label.ensures.stands
    (c.put-2.ensures.keeps c.in_ok-clearance.clearance c.args.clearance c.in_ok-clearance.ensures.stands) c.give_own.new.table c.give_own.ensures
