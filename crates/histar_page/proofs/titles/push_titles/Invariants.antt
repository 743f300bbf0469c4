-- The invariants and measures of `push_titles` of src/titles.rt.
use Rattle.std.proofs.Common.{◌≡◌, ◌++◌, length}
use Rattle.histar_page.specs.Items.{items_of}
use Rattle.histar_page.specs.Texts.{texts}
use Rattle.histar_page.specs.Titles.{titles_items}
use Rattle.histar_page.proofs.titles.push_titles.Given as goal

abbrev pub decreases-lines : goal.decreases-lines
decreases-lines l = length l.rest

abbrev pub invariant-lines : goal.invariant-lines
invariant-lines l = items_of l.pieces.items ++ titles_items (texts l.rest) ≡ items_of l.fn.pieces.items ++ titles_items (texts l.lines)
