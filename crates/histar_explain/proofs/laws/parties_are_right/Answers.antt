-- Proves the goals of `parties_are_right` of src/laws.rt that the search leaves open.
use Rattle.histar_explain.proofs.Parties.{parties_are_right}
use Rattle.histar_explain.proofs.laws.parties_are_right.Goals as goal

pub returns : goal.returns
returns c = parties_are_right
