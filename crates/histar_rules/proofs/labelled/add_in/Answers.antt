-- Proves the goals of `add_in` of src/labelled.rt that the search leaves open.
use Rattle.std.proofs.Common.{◌≡◌, ◌∙◌}
use Rattle.std.proofs.lemmas.Result.{on_ok_weaker, on_err_weaker}
use Rattle.histar_object.specs.Objects.{objects_of, with_new}
use Rattle.histar_container.proofs.Keeping.{all_on, shown_on, on_err, none_there, linked_stand, shown_new, shown_same}
use Rattle.histar_rules.proofs.labelled.add_in.Goals as goal

pub returns-in_err-object-clause-stand : goal.returns-in_err-object-clause-stand
returns-in_err-object-clause-stand g c =
    all_on _ _ c.put_object.ensures.keeps _ c.requires.stand

pub returns-in_err-object-clause-err : goal.returns-in_err-object-clause-err
returns-in_err-object-clause-err g c =
    on_err _ _ (shown_on _ _ c.put_object.ensures.keeps c.args.table.now c.requires.stand)

pub link_new-requires : goal.link_new-requires
link_new-requires g c = none_there (g.S.LabelStore.labels c.args.store.now) c.args.table.now c.args.number c.requires.is_new

pub returns-clause-stand : goal.returns-clause-stand
returns-clause-stand g c =
    linked_stand _ _ _ _ _ _ _ c.link_new.ensures.ok c.link_new.ensures.err
    (all_on _ _ c.put_object.ensures.keeps _ c.requires.stand) c.in_ok-object.ensures.stands

pub returns-clause-ok : goal.returns-clause-ok
returns-clause-ok g c =
    let o = c.in_ok-object.object in
    let same = shown_on _ _ c.put_object.ensures.keeps c.args.table.now c.requires.stand in
    on_ok_weaker _ (λ (e : objects_of c.link_new.new.table ≡ with_new (objects_of c.args.table.now) c.args.container c.args.number o).
    shown_new (g.S.LabelStore.labels c.put_object.new.store) c.args.table.now c.link_new.new.table _ _ o e
    ∙ (λ i. with_new (same i) c.args.container c.args.number (c.in_ok-object.ensures.value i))) c.link_new.ensures.ok

pub returns-clause-err : goal.returns-clause-err
returns-clause-err g c =
    on_err_weaker _ (λ (e : objects_of c.link_new.new.table ≡ objects_of c.args.table.now).
    shown_same (g.S.LabelStore.labels c.put_object.new.store) c.args.table.now c.link_new.new.table e
    ∙ shown_on _ _ c.put_object.ensures.keeps c.args.table.now c.requires.stand) c.link_new.ensures.err
