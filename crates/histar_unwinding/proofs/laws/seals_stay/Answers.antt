-- Proves the goals of `seals_stay` of src/laws.rt that the search leaves open.
use Rattle.histar_unwinding.proofs.Seals.{seals_stay}
use Rattle.histar_unwinding.proofs.laws.seals_stay.Goals as goal

pub returns : goal.returns
returns c = seals_stay
