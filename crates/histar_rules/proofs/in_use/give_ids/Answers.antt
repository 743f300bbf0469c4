-- Proves the goals of `give_ids` of src/in_use.rt that the search leaves open.
use Rattle.std.proofs.Common.{◌≡◌, ℕ, sym, ◌∙◌, subst, arith}
use Rattle.histar_object.specs.Objects.{objects_of}
use Rattle.histar_rules.specs.InUse.{IsMoved}
use Rattle.histar_rules.proofs.Moving.{AreMoved, moved_more, moved_shown, moved_stand}
use Rattle.histar_rules.proofs.in_use.give_ids.Goals as goal

pub give_ids_at-requires-clause-stands : goal.give_ids_at-requires-clause-stands
give_ids_at-requires-clause-stands g c o is =
    c.requires.stand.each c.new.result o (sym (c.objects.invariant.rest c.new.result (omega arith)) ∙ is)

pub give_ids_at-requires-clause-has : goal.give_ids_at-requires-clause-has
give_ids_at-requires-clause-has g c o is =
    c.requires.has.each c.new.result o (omega arith) (sym (c.objects.invariant.rest c.new.result (omega arith)) ∙ is)

pub returns-clause-stand : goal.returns-clause-stand
returns-clause-stand g c =
    let end : c.objects.number ≡ c.args.next_object = omega arith in
    moved_stand _ _ c.args.table.now c.objects.table _ c.requires.unused (subst (AreMoved _ _ _ _) end c.objects.invariant)

pub returns-clause-same : goal.returns-clause-same
returns-clause-same g c =
    let end : c.objects.number ≡ c.args.next_object = omega arith in
    moved_shown _ _ c.args.table.now c.objects.table _ c.requires.unused (subst (AreMoved _ _ _ _) end c.objects.invariant)

pub objects-preserved : goal.objects-preserved
objects-preserved g c =
    let old = g.S.LabelStore.labels c.args.store.now in
    let new = g.S.LabelStore.labels c.args.fresh.now in
    let after = objects_of c.give_ids_at.new.table in
    moved_more old new _ _ after _ c.objects.invariant
    (subst (λ (n : ℕ). IsMoved old new (objects_of c.objects.table n) (after n)) c.new.ensures c.give_ids_at.ensures.moved)
    (λ q other. c.give_ids_at.ensures.others q (λ e. other (e ∙ c.new.ensures)))
