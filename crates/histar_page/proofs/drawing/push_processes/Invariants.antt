-- The invariants and measures of `push_processes` of src/drawing.rt.
use Rattle.std.proofs.Common.{◌≡◌, ◌++◌, ◌+◌, length}
use Rattle.histar_page.specs.Items.{items_of}
use Rattle.histar_page.specs.Texts.{texts}
use Rattle.histar_page.specs.Drawing.{process_nodes}
use Rattle.histar_page.proofs.drawing.push_processes.Given as goal

abbrev pub decreases-cells : goal.decreases-cells
decreases-cells l = length l.rest

abbrev pub invariant-cells : goal.invariant-cells
invariant-cells l =
    (items_of l.pieces.items ++ process_nodes l.index (texts l.rest) ≡ items_of l.fn.pieces.items ++ process_nodes 0 (texts l.cells))
    × (l.index + length l.rest ≡ length l.cells)
