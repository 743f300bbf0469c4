-- Proves the goals of `Table::get` of src/table.rt that the search leaves open.
use Rattle.std.proofs.Common.{◌≡◌, None, Some, sym, ap, ◌∙◌}
use Rattle.std.specs.Option.{option_copied}
use Rattle.histar_object.proofs.Placing.{slot_at, found_at, none_at}
use Rattle.histar_object.proofs.table.Table.get.Goals as goal

pub returns-in_err-slot : goal.returns-in_err-slot
returns-in_err-slot g c =
    let none : slot_at c.self.inside.slots.entries c.args.id ≡ None = sym c.get.ensures ∙ c.in_err-slot.was in
    ap option_copied c.from_residual.ensures
    ∙ rw (← c.self.view_is) (sym (none_at _ _ c.self.invariant _ none))

pub returns : goal.returns
returns g c =
    let here : Some _ ≡ slot_at c.self.inside.slots.entries c.args.id = sym c.in_ok-slot.was ∙ c.get.ensures in
    c.get-2.ensures
    ∙ rw (← c.self.view_is) (found_at _ _ c.self.invariant _ _ here)
