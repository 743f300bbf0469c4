-- Proves the goals of `Links::remove` of src/links.rt that the search leaves open.
use Rattle.std.proofs.Common.{sym, subst}
use Rattle.histar_object.specs.Links.{AreUpTo}
use Rattle.histar_object.proofs.LinkLemmas.{removed, up_to_removed}
use Rattle.histar_object.proofs.links.Links.remove.Goals as goal

pub returns : goal.returns
returns c =
    rw (← c.self.view_is, ← c.number.ensures) (removed _ _ _ c.remove.ensures.updates.0)

pub invariant_of-self : goal.invariant_of-self
invariant_of-self c =
    subst (AreUpTo c.self.inside.newest) (sym (removed _ _ _ c.remove.ensures.updates.0)) (up_to_removed _ _ _ c.self.invariant)
