-- Proves the goals of `Table::remove` of src/table.rt that the search leaves open.
use Rattle.std.proofs.Common.{◌≡◌, None, Some, sym, ◌∙◌}
use Rattle.slab.specs.Slab.{get}
use Rattle.histar_object.proofs.Placing.{slot_at, found_at, none_at, none_without, other_slots, removed, IsPlaced-changed, objects-changed}
use Rattle.histar_object.proofs.table.Table.remove.Goals as goal

pub returns-in_err-slot-clause-value : goal.returns-in_err-slot-clause-value
returns-in_err-slot-clause-value g c =
    let none : slot_at c.self.inside.slots.entries c.args.id ≡ None = sym c.remove.ensures.value ∙ c.in_err-slot.was in
    c.from_residual.ensures ∙ rw (← c.self.view_is) (sym (none_at _ _ c.self.invariant _ none))

pub returns-in_err-slot-clause-without : goal.returns-in_err-slot-clause-without
returns-in_err-slot-clause-without g c =
    let none : slot_at c.self.inside.slots.entries c.args.id ≡ None = sym c.remove.ensures.value ∙ c.in_err-slot.was in
    rw (← c.self.view_is, c.in_err-slot.ensures.unchanged) (λ i q. none_without _ _ c.self.invariant c.args.id none q i)

pub invariant_of-self-2 : goal.invariant_of-self-2
invariant_of-self-2 g c =
    let old = get c.self.inside.objects in
    let new = get c.try_remove.new.self in
    let here : slot_at c.self.inside.slots.entries c.args.id ≡ Some _ = sym c.remove.ensures.value ∙ c.in_ok-slot.was in
    let one =
    removed old new _ c.self.invariant _ _ _ here c.remove.ensures.updates c.try_remove.ensures.updates.changed c.try_remove.ensures.updates.others in
    IsPlaced-changed old new _ _ _ _ None None one c.self.invariant c.remove.ensures.once

pub returns-clause-value : goal.returns-clause-value
returns-clause-value g c =
    let here : Some _ ≡ slot_at c.self.inside.slots.entries c.args.id = sym c.in_ok-slot.was ∙ c.remove.ensures.value in
    c.try_remove.ensures.value ∙ rw (← c.self.view_is) (found_at _ _ c.self.invariant _ _ here)

pub returns-clause-without : goal.returns-clause-without
returns-clause-without g c =
    let old = get c.self.inside.objects in
    let new = get c.try_remove.new.self in
    let here : slot_at c.self.inside.slots.entries c.args.id ≡ Some _ = sym c.remove.ensures.value ∙ c.in_ok-slot.was in
    let one =
    removed old new _ c.self.invariant _ _ _ here c.remove.ensures.updates c.try_remove.ensures.updates.changed c.try_remove.ensures.updates.others in
    rw (← c.self.view_is) (objects-changed old new _ _ _ _ None None one c.self.invariant c.remove.ensures.once)

pub returns-clause-slots : goal.returns-clause-slots
returns-clause-slots g c =
    rw (← c.self.view_is) (other_slots _ _ _ None c.remove.ensures.updates)
