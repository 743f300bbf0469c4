-- Proves the goals of `LabelledObjects::is_in_root` of src/labelled.rt that the search leaves open.
use Rattle.std.proofs.Common.{◌≡◌, rules, sym, ap, ◌∙◌}
use Rattle.std.specs.FinSet as set
use Rattle.histar_object.specs.Objects.{objects_of, links_in}
use Rattle.histar_container.specs.ObjectsModel.{ObjectsModel}
use Rattle.histar_container.proofs.KeepingTrees.{links_shown}
use Rattle.histar_container.proofs.Links.{absent_links, kind_links_none}
use Rattle.histar_rules.specs.Sound.{root_number}
use Rattle.histar_rules.proofs.labelled.LabelledObjects.is_in_root.Given as given
use Rattle.histar_rules.proofs.labelled.LabelledObjects.is_in_root.Goals as goal
use Rattle.histar_rules.proofs.labelled.LabelledObjects.is_in_root.Goals.{After-get}

-- what the root container of the table links, it links with labels by value
links_are : (g : given.Over) (c : After-get g)
    → set.contains (links_in (objects_of c.self.inside.table c.new.result)) c.args.object
    ≡ set.contains (links_in (objects_of c.args.self.now.objects root_number)) c.args.object
links_are g c =
    ap (λ q. set.contains (links_in (objects_of c.self.inside.table q)) c.args.object) c.new.ensures
    ∙ sym (links_shown (g.S.LabelStore.labels c.self.inside.store) c.self.inside.table root_number c.args.object)
    ∙ ap (λ (k : ObjectsModel). set.contains (links_in (objects_of k.objects root_number)) c.args.object) c.self.view_is

pub returns-in_default : goal.returns-in_default
returns-in_default g c =
    kind_links_none c.in-Some.root.now.kind c.args.object (search rules)
    ∙ ap (λ o. set.contains (links_in o) c.args.object) c.in-Some.ensures
    ∙ links_are g (goal.at.returns-in_default g c).After-get

pub returns-in-None : goal.returns-in-None
returns-in-None g c = absent_links _ c.args.object c.in-None.ensures ∙ links_are g (goal.at.returns-in-None g c).After-get
