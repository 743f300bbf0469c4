-- Proves the goals of `Table::get_mut` of src/table.rt that the search leaves open.
use Rattle.std.proofs.Common.{◌≡◌, None, Some, refl, sym, ap, ◌∙◌}
use Rattle.std.specs.Prelude.{Option, OnSome, ◌-◌, min}
use Rattle.slab.specs.Slab.{get, with_value}
use Rattle.slab.proofs.SlabLemmas.{Updates-with_value}
use Rattle.histar_object.proofs.Placing.{slot_at, found_at, none_at, written, slab_len-with_value, IsPlaced-changed, objects-changed}
use Rattle.histar_object.proofs.table.Table.get_mut.Goals as goal

-- a fact holds where a value is there
on_some : {A P : Type 0} (o : Option A) → P → OnSome o P
on_some None holds = tt
on_some (Some x) holds = holds

pub returns-in_err-slot : goal.returns-in_err-slot
returns-in_err-slot g c =
    let none : slot_at c.self.inside.slots.entries c.args.id ≡ None = sym c.get.ensures ∙ c.in_err-slot.was in
    rw c.from_residual.ensures (
      (refl, λ w. tt, c.self.view_is),
      record {
        writes_back = tt;
        value = rw (← c.self.view_is) (sym (none_at _ _ c.self.invariant
            _ none));
      },
    )

pub invariant_of-self-lent : goal.invariant_of-self-lent
invariant_of-self-lent g c lent =
    let old = get c.self.inside.objects in
    let here : slot_at c.self.inside.slots.entries c.args.id ≡ Some _ = sym c.get.ensures ∙ c.in_ok-slot.was in (
      λ w. (let updates = Updates-with_value c.self.inside.objects c.in_ok-slot.slot w (c.self.invariant.filled c.args.id c.in_ok-slot.slot here) in
          let new = get (with_value c.self.inside.objects c.in_ok-slot.slot w) in
          let one = written old new _ c.self.invariant c.args.id _ w here updates.changed updates.others in
          IsPlaced-changed old new _ _ _ _ (Some _) (Some w) one c.self.invariant c.self.invariant.once),
      c.self.invariant,
    )

pub returns : goal.returns
returns g c =
    let old = get c.self.inside.objects in
    let here : slot_at c.self.inside.slots.entries c.args.id ≡ Some c.in_ok-slot.slot = sym c.get.ensures ∙ c.in_ok-slot.was in (
      (
        refl,
        λ w. (let updates = Updates-with_value c.self.inside.objects c.in_ok-slot.slot w (c.self.invariant.filled c.args.id c.in_ok-slot.slot here) in
            let new = get (with_value c.self.inside.objects c.in_ok-slot.slot w) in
            let one = written old new c.self.inside.slots.entries c.self.invariant c.args.id c.in_ok-slot.slot w here updates.changed updates.others
            in
            let objects = objects-changed old new c.self.inside.slots.entries c.self.inside.slots.entries c.args.id c.in_ok-slot.slot
            (Some c.in_ok-slot.slot) (Some w) one c.self.invariant c.self.invariant.once in
            let held = slab_len-with_value c.self.inside.objects c.in_ok-slot.slot w (c.self.invariant.filled c.args.id c.in_ok-slot.slot here) in
            on_some c.get_mut.result (rw (← c.self.view_is) (record {
              objects = objects;
              slots = λ i q. slot_at c.self.inside.slots.entries q;
              room = ap (λ n. min c.self.inside.slots.room (c.self.inside.objects.capacity - n)) held;
            }))),
        c.self.view_is,
      ),
      record {
        writes_back = tt;
        value = c.get_mut.ensures.value ∙ rw (← c.self.view_is) (found_at old c.self.inside.slots.entries c.self.invariant c.args.id c.in_ok-slot.slot
            (sym here));
      },
    )
