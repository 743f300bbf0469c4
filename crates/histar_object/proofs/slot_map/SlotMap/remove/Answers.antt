-- Proves the goals of `SlotMap::remove` of src/slot_map.rt that the search leaves open.
use Rattle.std.proofs.Common.{Option, None, Some, sym, ap, ◌∙◌, arith}
use Rattle.std.specs.Prelude.{◌++◌, IfNone}
use Rattle.histar_object.specs.Slots.{numbered, in_place}
use Rattle.histar_object.proofs.Numbering.{in_place_within, found_in_place, found_in_map, found_put, found_emptied, distinct_in_both, AreApart-put}
use Rattle.histar_object.proofs.Numbering.{AreApart-emptied}
use Rattle.histar_object.proofs.slot_map.SlotMap.remove.Goals as goal

-- a consequence of a fact holds, where a value is missing
if_none : {A P Q : Type 0} (o : Option A) → (P → Q) → IfNone o P → IfNone o Q
if_none None follows holds = follows holds
if_none (Some x) follows holds = tt

pub returns-in_default-clause-unchanged : goal.returns-in_default-clause-unchanged
returns-in_default-clause-unchanged c =
    rw (← c.self.view_is) (if_none c.remove.result (λ same. ap (λ es. numbered 0 c.self.inside.listed.items ++ es) same) c.remove.ensures.unchanged)

pub invariant_of-self : goal.invariant_of-self
invariant_of-self c =
    AreApart-put _ _ c.self.invariant _ _ None (ap (λ l. in_place l c.args.id) (sym c.deref.ensures.value) ∙ sym c.place.ensures ∙ c.in_default.is)
    c.remove.ensures.unique c.remove.ensures.updates.0

pub returns-in_default-clause-value : goal.returns-in_default-clause-value
returns-in_default-clause-value c =
    rw (← c.self.view_is) (c.remove.ensures.value
    ∙ sym (found_in_map c.self.inside.listed.items c.self.inside.others.entries c.args.id
    (ap (λ l. in_place l c.args.id) (sym c.deref.ensures.value) ∙ sym c.place.ensures
    ∙ c.in_default.is)))

pub returns-in_default-clause-once : goal.returns-in_default-clause-once
returns-in_default-clause-once c = distinct_in_both _ _ (invariant_of-self c)

pub returns-in_default-clause-updates : goal.returns-in_default-clause-updates
returns-in_default-clause-updates c q =
    rw (← c.self.view_is) (found_put _ _ _ _ None
    (ap (λ l. in_place l c.args.id) (sym c.deref.ensures.value) ∙ sym c.place.ensures ∙ c.in_default.is) q (c.remove.ensures.updates.0 q))

pub index_mut-requires : goal.index_mut-requires
index_mut-requires c =
    let found = ap (λ l. in_place l c.args.id) (sym c.deref.ensures.value) ∙ sym c.place.ensures ∙ c.in-Some.is in
    omega (arith, c.number.ensures, in_place_within c.args.id c.in-Some.slot c.self.inside.listed.items found)

pub invariant_of-self-2 : goal.invariant_of-self-2
invariant_of-self-2 c = AreApart-emptied _ _ c.self.invariant _

pub returns-clause-value : goal.returns-clause-value
returns-clause-value c =
    rw (← c.self.view_is) (sym (found_in_place c.self.inside.listed.items c.self.inside.others.entries c.args.id _
    (ap (λ l. in_place l c.args.id) (sym c.deref.ensures.value) ∙ sym c.place.ensures ∙ c.in-Some.is)))

pub returns-clause-once : goal.returns-clause-once
returns-clause-once c = distinct_in_both _ _ (invariant_of-self-2 c)

pub returns-clause-updates : goal.returns-clause-updates
returns-clause-updates c =
    rw (c.number.ensures, ← c.self.view_is) (found_emptied _ _ _ (c.self.invariant.apart c.args.id c.in-Some.slot
    (ap (λ l. in_place l c.args.id) (sym c.deref.ensures.value) ∙ sym c.place.ensures ∙ c.in-Some.is)))
