-- Proves the goals of `processes_are_named` of src/rights_laws.rt that the search leaves open.
use Rattle.histar_rights.proofs.Named.{processes_are_named}
use Rattle.histar_rights.proofs.rights_laws.processes_are_named.Goals as goal

pub returns : goal.returns
returns c = processes_are_named
