-- Proves the goals of `Links::append_to` of src/links.rt that the search leaves open.
use Rattle.histar_object.proofs.LinkLemmas.{appended}
use Rattle.histar_object.proofs.links.Links.append_to.Goals as goal

pub returns-clause-ok : goal.returns-clause-ok
returns-clause-ok g c =
    let given = c.into_iter-number-iterator.ensures.into_iter_gives in
    appended _ _ _ _ _ _ c.self.view_is given.0 given.4 c.in-None.ensures.steps.0 c.loop-number.invariant
