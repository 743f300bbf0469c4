-- Proves the goals of `named_attacks_are_attacks` of src/laws.rt that the search leaves open.
use Rattle.histar_outside.proofs.AttacksByName.{named_attacks_are_attacks}
use Rattle.histar_outside.proofs.laws.named_attacks_are_attacks.Goals as goal

pub returns : goal.returns
returns c = named_attacks_are_attacks
