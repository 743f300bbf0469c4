-- Proves the goals of `tables_show_rights` of src/diff_laws.rt that the search leaves open.
use Rattle.histar_diff.proofs.ShownTables.{tables_show_rights}
use Rattle.histar_diff.proofs.diff_laws.tables_show_rights.Goals as goal

pub returns : goal.returns
returns c = tables_show_rights
