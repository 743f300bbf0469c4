-- Proves the goals of `denials_have_grounds` of src/laws.rt that the search leaves open.
use Rattle.histar_explain.proofs.Grounds.{denials_have_grounds}
use Rattle.histar_explain.proofs.laws.denials_have_grounds.Goals as goal

pub returns : goal.returns
returns c = denials_have_grounds
