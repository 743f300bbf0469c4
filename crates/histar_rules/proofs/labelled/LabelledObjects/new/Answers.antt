-- Proves the goals of `LabelledObjects::new` of src/labelled.rt that the search leaves open.
use Rattle.histar_container.proofs.Keeping.{nothing_kept, nothing_shown}
use Rattle.histar_rules.proofs.labelled.LabelledObjects.new.Goals as goal

pub invariant_of-result : goal.invariant_of-result
invariant_of-result g c = nothing_kept _ _ _ c.requires c.new.ensures

pub returns : goal.returns
returns g c =
    λ i. record {
      objects = nothing_shown (g.S.LabelStore.labels c.args.store) c.new.result c.new.ensures i;
      next_object = c.args.next_object;
      next_category = c.args.next_category;
    }
