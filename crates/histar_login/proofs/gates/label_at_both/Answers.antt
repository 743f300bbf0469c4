-- Proves the goals of `label_at_both` of src/gates.rt that the search leaves open.
use Rattle.std.proofs.Common.{sym, ◌∙◌}
use Rattle.histar_label.specs.Levels.{with_level}
use Rattle.histar_login.proofs.GroupLemmas.{both_next}
use Rattle.histar_login.proofs.gates.label_at_both.Goals as goal

pub loop-owner-preserved : goal.loop-owner-preserved
loop-owner-preserved g c =
    let level = c.args.level in
    c.in_ok-set-2.ensures.ok
    ∙ (λ j. with_level ((c.in_ok-set.ensures.ok ∙ (λ k. with_level (c.loop-owner.invariant k) (c.read_category.ensures k) level))
    j) (c.write_category.ensures j) level)
    ∙ sym (both_next level _ _ _ c.loop-owner-test.true)
