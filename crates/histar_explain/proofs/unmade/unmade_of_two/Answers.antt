-- Proves the goals of `unmade_of_two` of src/unmade.rt that the search leaves open.
use Rattle.histar_explain.proofs.UnmadePasses.{unmade_of_both}
use Rattle.histar_explain.proofs.unmade.unmade_of_two.Goals as goal

pub returns : goal.returns
returns c = unmade_of_both c.args.next c.args.first.now c.args.second.now c.args.ones.now c.unmade_in.result c.requires c.unmade_in.ensures
