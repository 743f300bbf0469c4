-- The invariants and measures of `rights_in` of src/rights_table.rt.
use Rattle.std.proofs.Common.{◌≡◌, take}
use Rattle.std.specs.Prelude.{map}
use Rattle.histar_access.specs.Cells.{cell_rights}
use Rattle.histar_access.proofs.rights_table.rights_in.Given as goal

abbrev pub invariant-loop-cell : goal.invariant-loop-cell
invariant-loop-cell l = l.rights.items ≡ map cell_rights (take l.cell-index l.row)
