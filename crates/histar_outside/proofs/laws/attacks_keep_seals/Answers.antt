-- Proves the goals of `attacks_keep_seals` of src/laws.rt that the search leaves open.
use Rattle.histar_outside.proofs.AllPrograms.{attacks_keep_seals}
use Rattle.histar_outside.proofs.laws.attacks_keep_seals.Goals as goal

pub returns : goal.returns
returns c = attacks_keep_seals
