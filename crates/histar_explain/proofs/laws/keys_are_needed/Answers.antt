-- Proves the goals of `keys_are_needed` of src/laws.rt that the search leaves open.
use Rattle.histar_explain.proofs.Needs.{keys_are_needed}
use Rattle.histar_explain.proofs.laws.keys_are_needed.Goals as goal

pub returns : goal.returns
returns c = keys_are_needed
