-- The invariants and measures of `push_uses` of src/uses.rt.
use Rattle.std.proofs.Common.{◌≡◌, ◌++◌, length}
use Rattle.std.specs.List.{flat_map}
use Rattle.histar_page.specs.Texts.{texts}
use Rattle.histar_page.specs.Items.{items_of}
use Rattle.histar_page.specs.Uses.{reply_items}
use Rattle.histar_page.proofs.uses.push_uses.Given as goal

abbrev pub decreases-replies : goal.decreases-replies
decreases-replies l = length l.rest

abbrev pub invariant-replies : goal.invariant-replies
invariant-replies l =
    items_of l.pieces.items ++ flat_map (reply_items (texts l.script) l.path) (texts l.rest)
    ≡ items_of l.fn.pieces.items ++ flat_map (reply_items (texts l.script) l.path) (texts l.replies)
