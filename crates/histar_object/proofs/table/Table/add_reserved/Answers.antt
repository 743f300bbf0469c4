-- Proves the goals of `Table::add_reserved` of src/table.rt that the search leaves open.
use Rattle.std.proofs.Common.{Some}
use Rattle.slab.specs.Slab.{get}
use Rattle.histar_object.proofs.Placing.{no_slot, other_slots, added, IsPlaced-changed, objects-changed}
use Rattle.histar_object.proofs.table.Table.add_reserved.Goals as goal

pub invariant_of-self : goal.invariant_of-self
invariant_of-self g c =
    let old = get c.self.inside.objects in
    let new = get c.insert_reserved-slot.new.self in
    let none = no_slot old _ c.self.invariant _ (rw (← c.self.view_is) at c.requires.absent) in
    let one =
    added old new _ c.self.invariant _ _ _ _ none c.insert_reserved.ensures.updates
    c.insert_reserved-slot.ensures.was_vacant c.insert_reserved-slot.ensures.updates.changed c.insert_reserved-slot.ensures.updates.others in
    IsPlaced-changed old new _ _ _ _ (Some _) (Some _) one c.self.invariant c.insert_reserved.ensures.once

pub returns-clause-objects : goal.returns-clause-objects
returns-clause-objects g c =
    let old = get c.self.inside.objects in
    let new = get c.insert_reserved-slot.new.self in
    let none = no_slot old _ c.self.invariant _ (rw (← c.self.view_is) at c.requires.absent) in
    let one =
    added old new _ c.self.invariant _ _ _ _ none c.insert_reserved.ensures.updates
    c.insert_reserved-slot.ensures.was_vacant c.insert_reserved-slot.ensures.updates.changed c.insert_reserved-slot.ensures.updates.others in
    rw (← c.self.view_is) (objects-changed old new _ _ _ _ (Some _) (Some _) one c.self.invariant c.insert_reserved.ensures.once)

pub returns-clause-slots : goal.returns-clause-slots
returns-clause-slots g c =
    rw (← c.self.view_is) (other_slots _ _ _ (Some _) c.insert_reserved.ensures.updates)

pub insert_reserved-requires-clause-absent : goal.insert_reserved-requires-clause-absent
insert_reserved-requires-clause-absent g c =
    no_slot _ _ c.self.invariant _ (rw (← c.self.view_is) at c.requires.absent)
