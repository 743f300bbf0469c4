-- Proves the goals of `SlotMap::reserve` of src/slot_map.rt that the search leaves open.
use Rattle.histar_object.proofs.Numbering.{found_alike, distinct_in_both, AreApart-alike}
use Rattle.histar_object.proofs.slot_map.SlotMap.reserve.Goals as goal

pub invariant_of-self-2 : goal.invariant_of-self-2
invariant_of-self-2 g c =
    AreApart-alike _ _ c.self.invariant _ _ c.reserve_map.ensures.unique c.reserve_place.ensures.slots c.reserve_map.ensures.entries.2

pub returns-clause-once : goal.returns-clause-once
returns-clause-once g c = distinct_in_both _ _ (invariant_of-self-2 g c)

pub returns-clause-slots : goal.returns-clause-slots
returns-clause-slots g c q =
    rw (← c.self.view_is) (found_alike _ _ _ _ q (c.reserve_place.ensures.slots q) (c.reserve_map.ensures.entries.2 q))

pub returns-in_err-reserve_map-clause-once : goal.returns-in_err-reserve_map-clause-once
returns-in_err-reserve_map-clause-once g c =
    rw c.in_err-reserve_map.ensures.err (distinct_in_both _ _ c.self.invariant)
