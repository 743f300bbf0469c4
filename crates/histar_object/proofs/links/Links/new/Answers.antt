-- Proves the goals of `Links::new` of src/links.rt that the search leaves open.
use Rattle.histar_object.proofs.LinkLemmas.{up_to_none}
use Rattle.histar_object.proofs.links.Links.new.Goals as goal

pub invariant_of-result : goal.invariant_of-result
invariant_of-result c = up_to_none c.new.result.keys 0 c.new.ensures.empty
