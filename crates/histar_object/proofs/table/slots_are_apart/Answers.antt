-- Proves the goals of `slots_are_apart` of src/table.rt that the search leaves open.
use Rattle.histar_object.proofs.Placing.{slot_none}
use Rattle.histar_object.proofs.table.slots_are_apart.Goals as goal

pub returns-clause-present : goal.returns-clause-present
returns-clause-present g c = rw (← c.table.view_is) (slot_none _ _ c.table.invariant)

pub returns-clause-apart : goal.returns-clause-apart
returns-clause-apart g c = rw (← c.table.view_is) c.table.invariant.apart
