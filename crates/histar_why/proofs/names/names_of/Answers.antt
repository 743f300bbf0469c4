-- Proves the goals of `names_of` of src/names.rt that the search leaves open.
use Rattle.std.proofs.Common.{ap, ◌∙◌}
use Rattle.histar_why.specs.Names.{job_named}
use Rattle.histar_why.proofs.Lists.{mapped_more}
use Rattle.histar_why.proofs.names.names_of.Goals as goal

pub loop-category-preserved : goal.loop-category-preserved
loop-category-preserved c =
    c.in_ok-push.ensures.items
    ∙ mapped_more (job_named c.args.births.now) c.args.categories.now _ c.loop-category.category-index _ _ c.loop-category-test.true
    c.loop-category.invariant (c.job_named.ensures ∙ ap (job_named c.args.births.now) c.category-item.is)
