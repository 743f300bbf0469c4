-- The invariants and measures of `push_flows` of src/flows.rt.
use Rattle.std.proofs.Common.{◌≡◌, ◌++◌, ◌∷◌, [], length, map}
use Rattle.histar_page.specs.declared.markup.Markup.TheVariants.{EndFlows}
use Rattle.histar_page.specs.Items.{items_of}
use Rattle.histar_page.specs.Items.Item.{Fixed}
use Rattle.histar_page.specs.Texts.{texts}
use Rattle.histar_page.specs.Flows.{flow_item}
use Rattle.histar_page.proofs.flows.push_flows.Given as goal

abbrev pub decreases-lines : goal.decreases-lines
decreases-lines l = length l.rest

abbrev pub invariant-lines : goal.invariant-lines
invariant-lines l =
    items_of l.pieces.items ++ map flow_item (texts l.rest) ++ Fixed EndFlows ∷ []
    ≡ items_of l.fn.pieces.items ++ map flow_item (texts l.lines) ++ Fixed EndFlows ∷ []
