-- Proves the goals of `writers_make_entries` of src/rights_laws.rt that the search leaves open.
use Rattle.histar_rights.proofs.Answered.{writers_make_entries}
use Rattle.histar_rights.proofs.rights_laws.writers_make_entries.Goals as goal

pub returns : goal.returns
returns c = writers_make_entries
