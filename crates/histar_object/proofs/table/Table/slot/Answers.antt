-- Proves the goals of `Table::slot` of src/table.rt that the search leaves open.
use Rattle.histar_object.proofs.table.Table.slot.Goals as goal

pub returns : goal.returns
returns g c = rw (← c.self.view_is) c.get.ensures
