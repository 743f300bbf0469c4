-- Proves the goals of `directories_give_rights` of src/rights_laws.rt that the search leaves open.
use Rattle.histar_rights.proofs.Giving.{directories_give_rights}
use Rattle.histar_rights.proofs.rights_laws.directories_give_rights.Goals as goal

pub returns : goal.returns
returns c = directories_give_rights
