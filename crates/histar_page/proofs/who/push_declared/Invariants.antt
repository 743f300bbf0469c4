-- The invariants and measures of `push_declared` of src/who.rt.
use Rattle.std.proofs.Common.{◌≡◌, ◌++◌, ◌∷◌, [], length}
use Rattle.histar_page.specs.declared.markup.Markup.TheVariants.{EndWho}
use Rattle.histar_page.specs.Items.{items_of}
use Rattle.histar_page.specs.Items.Item.{Fixed}
use Rattle.histar_page.specs.Texts.{texts}
use Rattle.histar_page.specs.Who.{declared_in}
use Rattle.histar_page.proofs.who.push_declared.Given as goal

abbrev pub decreases-lines : goal.decreases-lines
decreases-lines l = length l.rest

abbrev pub invariant-lines : goal.invariant-lines
invariant-lines l =
    items_of l.pieces.items ++ declared_in (texts l.rest) ++ Fixed EndWho ∷ []
    ≡ items_of l.fn.pieces.items ++ declared_in (texts l.lines) ++ Fixed EndWho ∷ []
