-- The invariants and measures of `push_notes` of src/story.rt.
use Rattle.std.proofs.Common.{◌≡◌, ◌++◌, length}
use Rattle.std.specs.List.{flat_map}
use Rattle.histar_page.specs.Items.{items_of}
use Rattle.histar_page.specs.Texts.{texts}
use Rattle.histar_page.specs.Story.{note_items}
use Rattle.histar_page.proofs.story.push_notes.Given as goal

abbrev pub decreases-lines : goal.decreases-lines
decreases-lines l = length l.rest

abbrev pub invariant-lines : goal.invariant-lines
invariant-lines l =
    items_of l.pieces.items ++ flat_map (note_items l.reply) (texts l.rest)
    ≡ items_of l.fn.pieces.items ++ flat_map (note_items l.reply) (texts l.lines)
