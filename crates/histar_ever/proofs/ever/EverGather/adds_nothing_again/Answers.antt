-- Proves the goal of `adds_nothing_again` of src/ever.rt.
use Rattle.histar_ever.proofs.Again.{last_again}
use Rattle.histar_ever.proofs.ever.EverGather.adds_nothing_again.Goals as goal

pub returns : goal.returns
returns c = last_again
