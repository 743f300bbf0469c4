-- Proves the goals of `last_row` of src/table.rt that the search leaves open.
use Rattle.std.proofs.Common.{sym, ◌∙◌}
use Rattle.histar_access.proofs.RowLemmas.{last_found}
use Rattle.histar_access.proofs.table.last_row.Goals as goal

pub returns-in-Some : goal.returns-in-Some
returns-in-Some g c = c.as_slice.ensures.value ∙ sym (last_found c.args.start.now c.args.way.now c.in-Some.row.now c.in-Some.ensures.value)
