-- Proves the goal of `processes_ran` of src/ever_laws.rt.
use Rattle.histar_ever.proofs.Held.{processes_ran}
use Rattle.histar_ever.proofs.ever_laws.processes_ran.Goals as goal

pub returns : goal.returns
returns c = processes_ran
