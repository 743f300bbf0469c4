-- Proves the goals of `unmade_of_one` of src/unmade.rt that the search leaves open.
use Rattle.histar_explain.proofs.UnmadePasses.{unmade_of_first}
use Rattle.histar_explain.proofs.unmade.unmade_of_one.Goals as goal

pub returns : goal.returns
returns c = unmade_of_first c.args.next c.args.label.now c.args.ones.now c.unmade_in.result c.requires c.unmade_in.ensures
