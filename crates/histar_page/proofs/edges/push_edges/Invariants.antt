-- The invariants and measures of `push_edges` of src/edges.rt.
use Rattle.std.proofs.Common.{◌≡◌, ◌++◌, ◌+◌, length, true}
use Rattle.std.specs.List.{list_all}
use Rattle.histar_page.specs.Items.{items_of}
use Rattle.histar_page.specs.Texts.{texts}
use Rattle.histar_page.specs.Drawing.{is_narrow, table_edges}
use Rattle.histar_page.proofs.edges.push_edges.Given as goal

abbrev pub decreases-lines : goal.decreases-lines
decreases-lines l = length l.rest

abbrev pub invariant-lines : goal.invariant-lines
invariant-lines l =
    (items_of l.pieces.items ++ table_edges l.index (texts l.rest) ≡ items_of l.fn.pieces.items ++ table_edges 0 (texts l.lines))
    × (l.index + length l.rest ≡ length l.lines) × (list_all is_narrow (texts l.rest) ≡ true)
