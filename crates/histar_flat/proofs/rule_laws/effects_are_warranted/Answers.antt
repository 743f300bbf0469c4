-- Proves the goals of `effects_are_warranted` of src/rule_laws.rt that the search leaves open.
use Rattle.histar_flat.proofs.Warrants.{warranted}
use Rattle.histar_flat.proofs.rule_laws.effects_are_warranted.Goals as goal

pub returns : goal.returns
returns c = warranted
