-- Proves the goals of `with_writing` of src/kin.rt that the search leaves open.
use Rattle.std.proofs.Common.{◌∙◌}
use Rattle.histar_layout.specs.Categories.{write_category}
use Rattle.histar_programs.proofs.Scanning.{mapped_more}
use Rattle.histar_programs.proofs.kin.with_writing.Goals as goal

pub loop-owner-preserved : goal.loop-owner-preserved
loop-owner-preserved g c =
    c.in_ok-push.ensures.items
    ∙ mapped_more write_category c.args.owners.now _ _ c.loop-owner.owner-index _ c.loop-owner-test.true c.loop-owner.invariant
    c.write_category.ensures
