-- Proves the goals of `shown_tables_rise` of src/diff_laws.rt that the search leaves open.
use Rattle.histar_diff.proofs.ShownTables.{shown_tables_rise}
use Rattle.histar_diff.proofs.diff_laws.shown_tables_rise.Goals as goal

pub returns : goal.returns
returns c = shown_tables_rise
