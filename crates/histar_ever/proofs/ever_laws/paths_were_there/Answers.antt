-- Proves the goal of `paths_were_there` of src/ever_laws.rt.
use Rattle.histar_ever.proofs.Held.{paths_were_there}
use Rattle.histar_ever.proofs.ever_laws.paths_were_there.Goals as goal

pub returns : goal.returns
returns c = paths_were_there
