-- The invariants and measures of `push_cells` of src/cells.rt.
use Rattle.std.proofs.Common.{◌≡◌, ◌++◌, take}
use Rattle.std.specs.List.{flat_map}
use Rattle.histar_access.specs.Cells.{shown_text}
use Rattle.histar_access.proofs.cells.push_cells.Given as goal

abbrev pub invariant-loop-cell : goal.invariant-loop-cell
invariant-loop-cell l = l.line.items ≡ l.fn.line.items ++ flat_map shown_text (take l.cell-index l.row)
