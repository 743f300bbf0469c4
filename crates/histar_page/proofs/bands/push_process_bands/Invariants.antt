-- The invariants and measures of `push_process_bands` of src/bands.rt.
use Rattle.std.proofs.Common.{◌≡◌, ◌++◌, ◌+◌, length}
use Rattle.histar_page.specs.Items.{items_of}
use Rattle.histar_page.specs.Texts.{texts}
use Rattle.histar_page.specs.Drawing.{process_bands}
use Rattle.histar_page.proofs.bands.push_process_bands.Given as goal

abbrev pub decreases-cells : goal.decreases-cells
decreases-cells l = length l.rest

abbrev pub invariant-cells : goal.invariant-cells
invariant-cells l =
    (items_of l.pieces.items ++ process_bands l.job l.index (texts l.rest) ≡ items_of l.fn.pieces.items ++ process_bands l.job 0 (texts l.cells))
    × (l.index + length l.rest ≡ length l.cells)
