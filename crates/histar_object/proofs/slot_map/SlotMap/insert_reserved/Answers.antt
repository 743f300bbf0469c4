-- Proves the goals of `SlotMap::insert_reserved` of src/slot_map.rt that the search leaves open.
use Rattle.std.proofs.Common.{Some, rules}
use Rattle.histar_object.proofs.Numbering.{none_in_place, none_in_map, found_pushed, found_put, distinct_in_both, AreApart-pushed, AreApart-put}
use Rattle.histar_object.proofs.slot_map.SlotMap.insert_reserved.Goals as goal

pub invariant_of-self : goal.invariant_of-self
invariant_of-self c =
    rw c.in-Ok.ensures.items (AreApart-pushed c.self.inside.listed.items c.self.inside.others.entries c.self.invariant c.args.id c.args.slot
    (search (rules, c.number.ensures, c.if-number-len.true, c.len.ensures))
    (none_in_map c.self.inside.listed.items c.self.inside.others.entries c.args.id (rw (← c.self.view_is) at c.requires.absent)))

pub returns-in-Ok-clause-once : goal.returns-in-Ok-clause-once
returns-in-Ok-clause-once c = distinct_in_both _ _ (invariant_of-self c)

pub returns-in-Ok-clause-updates : goal.returns-in-Ok-clause-updates
returns-in-Ok-clause-updates c =
    rw (c.in-Ok.ensures.items, ← c.self.view_is) (found_pushed c.self.inside.listed.items c.self.inside.others.entries c.args.id c.args.slot
    (search (rules, c.number.ensures, c.if-number-len.true, c.len.ensures)))

pub invariant_of-self-in-Ok-insert : goal.invariant_of-self-in-Ok-insert
invariant_of-self-in-Ok-insert c =
    AreApart-put _ _ c.self.invariant _ _ (Some _)
    (none_in_place c.self.inside.listed.items c.self.inside.others.entries c.args.id (rw (← c.self.view_is) at c.requires.absent))
    c.insert.ensures.unique c.in-Ok-insert.ensures.updates.0

pub returns-in-Ok-insert-clause-once : goal.returns-in-Ok-insert-clause-once
returns-in-Ok-insert-clause-once c = distinct_in_both _ _ (invariant_of-self-in-Ok-insert c)

pub returns-in-Ok-insert-clause-updates : goal.returns-in-Ok-insert-clause-updates
returns-in-Ok-insert-clause-updates c q =
    let none = none_in_place c.self.inside.listed.items c.self.inside.others.entries c.args.id (rw (← c.self.view_is) at c.requires.absent) in
    rw (← c.self.view_is) (found_put c.self.inside.listed.items _ _ _ (Some _) none q (c.in-Ok-insert.ensures.updates.0 q))
