-- Proves the goals of `linked` of src/container.rt that the search leaves open.
use Rattle.std.proofs.Common.{rules, ap, ◌∙◌}
use Rattle.std.specs.FinSet as set
use Rattle.histar_object.specs.Objects.{links_in}
use Rattle.histar_container.proofs.Links.{absent_links, kind_links_none}
use Rattle.histar_container.proofs.container.linked.Goals as goal

pub returns-in_default : goal.returns-in_default
returns-in_default g c =
    kind_links_none c.in-Some.holder.now.kind c.args.object (search rules)
    ∙ ap (λ o. set.contains (links_in o) c.args.object) c.in-Some.ensures

pub returns-in-None : goal.returns-in-None
returns-in-None g c = absent_links _ c.args.object c.in-None.ensures
