-- The invariants and measures of `render` of src/piece.rt.
use Rattle.std.proofs.Common.{◌≡◌, ◌++◌, length}
use Rattle.histar_page.specs.Items.{items_of}
use Rattle.histar_page.specs.Rendering.{rendered}
use Rattle.histar_page.proofs.piece.render.Given as goal

abbrev pub decreases-pieces : goal.decreases-pieces
decreases-pieces l = length l.rest

abbrev pub invariant-pieces : goal.invariant-pieces
invariant-pieces l =
    l.page.items ++ rendered (items_of l.rest) ≡ l.fn.page.items ++ rendered (items_of l.pieces)
