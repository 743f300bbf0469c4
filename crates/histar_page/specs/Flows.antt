-- The flows on a page: to whom each process can pass on what it learns.
use Rattle.std.specs.Prelude.{ℕ, List, [], ◌∷◌, ◌++◌, map}
use Rattle.histar_page.specs.declared.kind.Kind.TheVariants.{Flow}
use Rattle.histar_page.specs.declared.markup.Markup.TheVariants.{BeginFlows, EndFlows, OnFlows}
use Rattle.histar_page.specs.Items.{Item}
use Rattle.histar_page.specs.Items.Item.{Fixed, Shown}

-- a line of the flows
abbrev pub flow_item : List ℕ → Item
flow_item line = Shown Flow line

-- the part of a page that shows the flows: each line of them
abbrev pub flows_items : List (List ℕ) → List Item
flows_items lines = Fixed BeginFlows ∷ Fixed OnFlows ∷ map flow_item lines ++ Fixed EndFlows ∷ []
