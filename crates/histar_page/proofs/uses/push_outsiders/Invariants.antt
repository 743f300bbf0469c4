-- The invariants and measures of `push_outsiders` of src/uses.rt.
use Rattle.std.proofs.Common.{◌≡◌, ◌++◌, length}
use Rattle.std.specs.List.{flat_map}
use Rattle.histar_page.specs.Texts.{texts}
use Rattle.histar_page.specs.Items.{items_of}
use Rattle.histar_page.specs.Uses.{outsider_items}
use Rattle.histar_page.proofs.uses.push_outsiders.Given as goal

abbrev pub decreases-runners : goal.decreases-runners
decreases-runners l = length l.rest

abbrev pub invariant-runners : goal.invariant-runners
invariant-runners l =
    items_of l.pieces.items ++ flat_map (outsider_items (texts l.members)) (texts l.rest)
    ≡ items_of l.fn.pieces.items ++ flat_map (outsider_items (texts l.members)) (texts l.runners)
