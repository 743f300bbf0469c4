-- Proves the goals of `SlotMap::new` of src/slot_map.rt that the search leaves open.
use Rattle.std.proofs.Common.{◌++◌}
use Rattle.histar_object.specs.Slots.{numbered}
use Rattle.histar_object.proofs.Numbering.{distinct_in_both}
use Rattle.histar_object.proofs.slot_map.SlotMap.new.Goals as goal

pub invariant_of-result : goal.invariant_of-result
invariant_of-result c = rw c.new.ensures.items (record { once = c.new-2.ensures.unique; apart = λ q k found. absurd (cc) })

pub returns-clause-empty : goal.returns-clause-empty
returns-clause-empty c i = numbered 0 (c.new.ensures.items i) ++ c.new-2.ensures.empty i

pub returns-clause-once : goal.returns-clause-once
returns-clause-once c = distinct_in_both _ _ (invariant_of-result c)
