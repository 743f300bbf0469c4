-- The invariants and measures of `push_rows` of src/files.rt.
use Rattle.std.proofs.Common.{◌≡◌, ◌++◌, ◌∷◌, [], length}
use Rattle.std.specs.List.{flat_map}
use Rattle.histar_page.specs.declared.markup.Markup.TheVariants.{EndFiles}
use Rattle.histar_page.specs.Items.{items_of}
use Rattle.histar_page.specs.Items.Item.{Fixed}
use Rattle.histar_page.specs.Texts.{texts}
use Rattle.histar_page.specs.Files.{line_items}
use Rattle.histar_page.proofs.files.push_rows.Given as goal

abbrev pub decreases-lines : goal.decreases-lines
decreases-lines l = length l.rest

abbrev pub invariant-lines : goal.invariant-lines
invariant-lines l =
    items_of l.pieces.items ++ flat_map (line_items l.flags) (texts l.rest) ++ Fixed EndFiles ∷ []
    ≡ items_of l.fn.pieces.items ++ flat_map (line_items l.flags) (texts l.lines) ++ Fixed EndFiles ∷ []
