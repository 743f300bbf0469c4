-- Proves the goals of `Links::insert` of src/links.rt that the search leaves open.
use Rattle.std.proofs.Common.{sym, subst, arith}
use Rattle.histar_object.specs.Links.{AreUpTo}
use Rattle.histar_object.proofs.LinkLemmas.{inserted, up_to_inserted}
use Rattle.histar_object.proofs.links.Links.insert.Goals as goal

pub returns-clause-ok : goal.returns-clause-ok
returns-clause-ok g c =
    rw (← c.self.view_is, ← c.number.ensures) (inserted _ _ _ c.in_ok-insert.ensures.updates.0)

pub invariant_of-self-2 : goal.invariant_of-self-2
invariant_of-self-2 g c =
    let most = c.max-self-inside.ensures in
    let same = c.number.ensures in
    let again = c.number-2.ensures in
    subst (AreUpTo c.max-self-inside.result) (sym (inserted _ _ _ c.in_ok-insert.ensures.updates.0))
    (up_to_inserted _ _ _ _ c.self.invariant (omega (arith, most)) (omega (arith, most, same, again)))
