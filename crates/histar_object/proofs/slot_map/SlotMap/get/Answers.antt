-- Proves the goals of `SlotMap::get` of src/slot_map.rt that the search leaves open.
use Rattle.std.proofs.Common.{◌≡◌, sym, ap, ◌∙◌}
use Rattle.histar_object.specs.Slots.{in_place}
use Rattle.histar_object.proofs.Numbering.{found_in_place, found_in_map}
use Rattle.histar_object.proofs.slot_map.SlotMap.get.Goals as goal

pub returns-in_default : goal.returns-in_default
returns-in_default c =
    let at_place : in_place c.self.inside.listed.items c.args.id ≡ c.place.result = ap (λ l. in_place l c.args.id) (sym c.deref.ensures.value) ∙ sym
    c.place.ensures in
    rw (← c.self.view_is) (c.slot_among.ensures ∙ sym (found_in_map c.self.inside.listed.items c.self.inside.others.entries c.args.id
    (at_place ∙ c.in_default.is)))

pub returns : goal.returns
returns c =
    let at_place : in_place c.self.inside.listed.items c.args.id ≡ c.place.result = ap (λ l. in_place l c.args.id) (sym c.deref.ensures.value) ∙ sym
    c.place.ensures in
    rw (← c.self.view_is) (sym (found_in_place c.self.inside.listed.items c.self.inside.others.entries c.args.id _ (at_place ∙ c.in-Some.is)))
