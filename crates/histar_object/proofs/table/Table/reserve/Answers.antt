-- Proves the goals of `Table::reserve` of src/table.rt that the search leaves open.
use Rattle.std.proofs.Common.{ap}
use Rattle.slab.specs.Slab.{get}
use Rattle.histar_object.specs.Slots.{placed}
use Rattle.histar_object.proofs.Placing.{object_at, IsPlaced-reordered, objects-reordered}
use Rattle.histar_object.proofs.table.Table.reserve.Goals as goal

pub returns-in_err-reserve_slab-clause-objects : goal.returns-in_err-reserve_slab-clause-objects
returns-in_err-reserve_slab-clause-objects g c =
    rw (← c.self.view_is) (λ i q. object_at (placed (get (c.reserve_slab.ensures.rest_kept i)) c.self.inside.slots.entries) q)

pub invariant_of-self-2 : goal.invariant_of-self-2
invariant_of-self-2 g c =
    IsPlaced-reordered _ _ _ _ c.self.invariant (ap get c.reserve_slab.ensures.rest_kept) c.reserve.ensures.slots c.reserve.ensures.once

pub returns-clause-objects : goal.returns-clause-objects
returns-clause-objects g c =
    rw (← c.self.view_is) (objects-reordered _ _ _ _ c.self.invariant
    (ap get c.reserve_slab.ensures.rest_kept) c.reserve.ensures.slots c.reserve.ensures.once)

pub returns-clause-slots : goal.returns-clause-slots
returns-clause-slots g c = rw (← c.self.view_is) (λ i q. c.reserve.ensures.slots q i)
