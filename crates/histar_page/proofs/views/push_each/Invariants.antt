-- The invariants and measures of `push_each` of src/views.rt.
use Rattle.std.proofs.Common.{◌≡◌, ◌++◌, length}
use Rattle.std.specs.List.{flat_map}
use Rattle.histar_page.specs.Items.{items_of}
use Rattle.histar_page.specs.Texts.{texts}
use Rattle.histar_page.specs.Views.{view_items}
use Rattle.histar_page.proofs.views.push_each.Given as goal

abbrev pub decreases-lines : goal.decreases-lines
decreases-lines l = length l.rest

abbrev pub invariant-lines : goal.invariant-lines
invariant-lines l =
    items_of l.pieces.items ++ flat_map (view_items l.view) (texts l.rest)
    ≡ items_of l.fn.pieces.items ++ flat_map (view_items l.view) (texts l.lines)
