-- Proves the goals of `Links::contains` of src/links.rt that the search leaves open.
use Rattle.std.proofs.Common.{sym, ap, ◌∙◌}
use Rattle.std.specs.FinSet as set
use Rattle.histar_object.proofs.LinkLemmas.{is_listed, contains_listed}
use Rattle.histar_object.proofs.links.Links.contains.Goals as goal

pub returns : goal.returns
returns c =
    c.contains.ensures ∙ ap (is_listed _) c.number.ensures
    ∙ sym (contains_listed _ _)
    ∙ ap (λ s. set.contains s c.args.object) c.self.view_is
