-- Proves the goals of `push_in` of src/labelled.rt that the search leaves open.
use Rattle.std.proofs.Common.{◌≡◌, ◌∙◌}
use Rattle.std.proofs.lemmas.Result.{on_ok_weaker, on_err_weaker}
use Rattle.histar_object.specs.Objects.{objects_of, put}
use Rattle.histar_container.proofs.Keeping.{all_on, shown_on, on_err, none_there, placed_stand, shown_put, shown_same}
use Rattle.histar_rules.proofs.labelled.push_in.Goals as goal

pub returns-in_err-object-clause-stand : goal.returns-in_err-object-clause-stand
returns-in_err-object-clause-stand g c =
    all_on _ _ c.put_object.ensures.keeps _ c.requires.stand

pub returns-in_err-object-clause-err : goal.returns-in_err-object-clause-err
returns-in_err-object-clause-err g c =
    on_err _ _ (shown_on _ _ c.put_object.ensures.keeps c.args.table.now c.requires.stand)

pub add-requires : goal.add-requires
add-requires g c = none_there (g.S.LabelStore.labels c.args.store.now) c.args.table.now c.args.number c.requires.is_new

pub returns-clause-stand : goal.returns-clause-stand
returns-clause-stand g c =
    placed_stand _ _ _ _ _ _ c.add.ensures.ok c.add.ensures.err
    (all_on _ _ c.put_object.ensures.keeps _ c.requires.stand) c.in_ok-object.ensures.stands

pub returns-clause-ok : goal.returns-clause-ok
returns-clause-ok g c =
    let o = c.in_ok-object.object in
    let same = shown_on _ _ c.put_object.ensures.keeps c.args.table.now c.requires.stand in
    on_ok_weaker _ (λ (e : objects_of c.add.new.self ≡ put (objects_of c.args.table.now) c.args.number o).
    shown_put (g.S.LabelStore.labels c.put_object.new.store) c.args.table.now c.add.new.self _ o e
    ∙ (λ i. put (same i) c.args.number (c.in_ok-object.ensures.value i))) c.add.ensures.ok

pub returns-clause-err : goal.returns-clause-err
returns-clause-err g c =
    on_err_weaker _ (λ (e : objects_of c.add.new.self ≡ objects_of c.args.table.now).
    shown_same (g.S.LabelStore.labels c.put_object.new.store) c.args.table.now c.add.new.self e
    ∙ shown_on _ _ c.put_object.ensures.keeps c.args.table.now c.requires.stand) c.add.ensures.err
