-- Proves the goals of `with_reading` of src/kin.rt that the search leaves open.
use Rattle.std.proofs.Common.{◌∙◌}
use Rattle.histar_layout.specs.Categories.{read_category}
use Rattle.histar_programs.proofs.Scanning.{mapped_more}
use Rattle.histar_programs.proofs.kin.with_reading.Goals as goal

pub loop-owner-preserved : goal.loop-owner-preserved
loop-owner-preserved g c =
    c.in_ok-push.ensures.items
    ∙ mapped_more read_category c.args.owners.now _ _ c.loop-owner.owner-index _ c.loop-owner-test.true c.loop-owner.invariant c.read_category.ensures
