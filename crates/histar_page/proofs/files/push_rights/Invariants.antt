-- The invariants and measures of `push_rights` of src/files.rt.
use Rattle.std.proofs.Common.{◌≡◌, ◌++◌, ◌∷◌, [], length, map}
use Rattle.histar_page.specs.declared.markup.Markup.TheVariants.{EndCell}
use Rattle.histar_page.specs.Items.{items_of}
use Rattle.histar_page.specs.Items.Item.{Fixed}
use Rattle.histar_page.specs.Files.{right_item}
use Rattle.histar_page.proofs.files.push_rights.Given as goal

abbrev pub decreases-rights : goal.decreases-rights
decreases-rights l = length l.rest

abbrev pub invariant-rights : goal.invariant-rights
invariant-rights l =
    items_of l.pieces.items ++ map right_item l.rest ++ Fixed EndCell ∷ []
    ≡ items_of l.fn.pieces.items ++ map right_item l.rights ++ Fixed EndCell ∷ []
