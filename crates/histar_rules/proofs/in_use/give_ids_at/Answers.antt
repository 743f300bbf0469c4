-- Proves the goals of `give_ids_at` of src/in_use.rt that the search leaves open.
use Rattle.std.proofs.Common.{◌≡◌, sym, ap, ◌∙◌, subst}
use Rattle.histar_object.specs.declared.objects.Object.{Object}
use Rattle.histar_object.specs.Objects.{objects_of, put}
use Rattle.histar_container.proofs.Links.{on_some}
use Rattle.histar_container.proofs.TableMoves.{put_here, put_other}
use Rattle.histar_rules.specs.InUse.{IsMoved}
use Rattle.histar_rules.proofs.Moving.{object_moved}
use Rattle.histar_rules.proofs.in_use.give_ids_at.Goals as goal

pub give_kind_ids-requires-clause-stands : goal.give_kind_ids-requires-clause-stands
give_kind_ids-requires-clause-stands g c = (c.requires.stands c.in-Some.object.now (sym c.in-Some.ensures.value)).kind

pub give_kind_ids-requires-clause-has : goal.give_kind_ids-requires-clause-has
give_kind_ids-requires-clause-has g c = (c.requires.has c.in-Some.object.now (sym c.in-Some.ensures.value)).clearance

pub returns-in-Some-clause-moved : goal.returns-in-Some-clause-moved
returns-in-Some-clause-moved g c =
    let old = g.S.LabelStore.labels c.args.store.now in
    let new = g.S.LabelStore.labels c.args.fresh.now in
    let left : Object g.row.S-Id.Denot = record { label = c.found-object.result; kind = c.give_kind_ids.new.kind } in
    let after : objects_of (c.get_mut.follows.lender left) ≡ put (objects_of c.args.table.now) c.args.number left =
    (on_some _ _ _ c.in-Some.is (c.get_mut.follows.holds left)).objects in
    subst (λ b. IsMoved old new b (objects_of (c.get_mut.follows.lender left) c.args.number)) c.in-Some.ensures.value
    (subst (IsMoved old new _) (sym (ap (λ objects. objects c.args.number) after ∙ put_here (objects_of c.args.table.now) c.args.number left))
    (object_moved old new _ left (c.requires.stands c.in-Some.object.now (sym c.in-Some.ensures.value)).label
    c.found-object.ensures c.give_kind_ids.ensures.stands c.give_kind_ids.ensures.same))

pub returns-in-Some-clause-others : goal.returns-in-Some-clause-others
returns-in-Some-clause-others g c q other =
    let left : Object g.row.S-Id.Denot = record { label = c.found-object.result; kind = c.give_kind_ids.new.kind } in
    let after : objects_of (c.get_mut.follows.lender left) ≡ put (objects_of c.args.table.now) c.args.number left =
    (on_some _ _ _ c.in-Some.is (c.get_mut.follows.holds left)).objects in
    ap (λ objects. objects q) after ∙ put_other (objects_of c.args.table.now) _ left q other
