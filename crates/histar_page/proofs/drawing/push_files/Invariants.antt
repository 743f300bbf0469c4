-- The invariants and measures of `push_files` of src/drawing.rt.
use Rattle.std.proofs.Common.{◌≡◌, ◌++◌, ◌+◌, length}
use Rattle.histar_page.specs.Items.{items_of}
use Rattle.histar_page.specs.Texts.{texts}
use Rattle.histar_page.specs.Drawing.{file_nodes}
use Rattle.histar_page.proofs.drawing.push_files.Given as goal

abbrev pub decreases-lines : goal.decreases-lines
decreases-lines l = length l.rest

abbrev pub invariant-lines : goal.invariant-lines
invariant-lines l =
    (items_of l.pieces.items ++ file_nodes l.index (texts l.rest) ≡ items_of l.fn.pieces.items ++ file_nodes 0 (texts l.lines))
    × (l.index + length l.rest ≡ length l.lines)
