-- Proves the goals of `append_links` of src/removal.rt that the search leaves open.
use Rattle.std.proofs.Common.{rules, ap, ◌∙◌}
use Rattle.std.specs.FinSet as set
use Rattle.histar_object.specs.Objects.{links_in}
use Rattle.histar_container.proofs.Links.{absent_links, kind_links_none, appends_none}
use Rattle.histar_container.proofs.removal.append_links.Goals as goal

pub returns-in_default-clause-ok : goal.returns-in_default-clause-ok
returns-in_default-clause-ok g c =
    appends_none _ _ (λ n. kind_links_none c.in-Some.holder.now.kind n (search rules)
    ∙ ap (λ o. set.contains (links_in o) n) c.in-Some.ensures)

pub returns-in-None-clause-ok : goal.returns-in-None-clause-ok
returns-in-None-clause-ok g c = appends_none _ _ (λ n. absent_links _ n c.in-None.ensures)
