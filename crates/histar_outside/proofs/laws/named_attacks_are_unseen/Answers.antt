-- Proves the goals of `named_attacks_are_unseen` of src/laws.rt that the search leaves open.
use Rattle.histar_outside.proofs.AttacksByName.{named_attacks_are_unseen}
use Rattle.histar_outside.proofs.laws.named_attacks_are_unseen.Goals as goal

pub returns : goal.returns
returns c = named_attacks_are_unseen
