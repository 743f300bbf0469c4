-- The invariants and measures of `table_lines` of src/rights_table.rt.
use Rattle.std.proofs.Common.{drop}
use Rattle.std.specs.Prelude.{map}
use Rattle.histar_syscall.specs.KernelModel.{state}
use Rattle.histar_access.proofs.RightsLines.{AreLines}
use Rattle.histar_access.proofs.RowLemmas.{cells_of}
use Rattle.histar_access.proofs.rights_table.table_lines.Given as goal

abbrev pub invariant-nodes : goal.invariant-nodes
invariant-nodes g l = AreLines (state l.machine.kernel) l.visitors l.tree (map cells_of l.way.items) (drop l.node-index l.tree) l.lines.items
