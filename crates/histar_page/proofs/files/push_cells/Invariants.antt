-- The invariants and measures of `push_cells` of src/files.rt.
use Rattle.std.proofs.Common.{◌≡◌, ◌++◌, length}
use Rattle.histar_page.specs.Items.{items_of}
use Rattle.histar_page.specs.Texts.{texts}
use Rattle.histar_page.specs.Files.{cells_items}
use Rattle.histar_page.proofs.files.push_cells.Given as goal

abbrev pub decreases-cells : goal.decreases-cells
decreases-cells l = length l.rest

abbrev pub invariant-cells : goal.invariant-cells
invariant-cells l =
    items_of l.pieces.items ++ cells_items l.later (texts l.rest) ≡ items_of l.fn.pieces.items ++ cells_items l.flags (texts l.cells)
