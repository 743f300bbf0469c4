-- Proves the goals of `running_are_listed` of src/rights_laws.rt that the search leaves open.
use Rattle.histar_rights.proofs.Listed.{running_are_listed}
use Rattle.histar_rights.proofs.rights_laws.running_are_listed.Goals as goal

pub returns : goal.returns
returns c = running_are_listed
