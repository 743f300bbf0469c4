-- The invariants and measures of `push_row` of src/edges.rt.
use Rattle.std.proofs.Common.{◌≡◌, ◌++◌, ◌+◌, length}
use Rattle.histar_page.specs.Items.{items_of}
use Rattle.histar_page.specs.Texts.{texts}
use Rattle.histar_page.specs.Drawing.{row_edges}
use Rattle.histar_page.proofs.edges.push_row.Given as goal

abbrev pub decreases-cells : goal.decreases-cells
decreases-cells l = length l.rest

abbrev pub invariant-cells : goal.invariant-cells
invariant-cells l =
    (items_of l.pieces.items ++ row_edges l.path l.file l.index (texts l.rest)
    ≡ items_of l.fn.pieces.items ++ row_edges l.path l.file 0 (texts l.cells))
    × (l.index + length l.rest ≡ length l.cells)
