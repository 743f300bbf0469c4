-- The invariants and measures of `row_below` of src/cells.rt.
use Rattle.std.proofs.Common.{◌≡◌, take}
use Rattle.std.specs.Prelude.{map}
use Rattle.histar_syscall.specs.KernelModel.{state}
use Rattle.histar_cells.specs.Cells.{cell_below}
use Rattle.histar_access.proofs.cells.row_below.Given as goal

abbrev pub invariant-loop-cell : goal.invariant-loop-cell
invariant-loop-cell g l = l.row.items ≡ map (cell_below (state l.kernel) l.object) (take l.cell-index l.above)
