-- Proves the goals of `label_at` of src/birth.rt that the search leaves open.
use Rattle.std.proofs.Common.{ap, ◌∙◌}
use Rattle.histar_level.specs.declared.level.Level.TheVariants.{L3}
use Rattle.histar_level.specs.Levels.{Levels}
use Rattle.histar_label.specs.Levels.{with_level}
use Rattle.histar_layout.specs.Labelling.{each_at, with_levels}
use Rattle.histar_layout.proofs.LabellingLemmas.{owning}
use Rattle.histar_process.proofs.birth.label_at.Goals as goal

pub returns-clause-ok : goal.returns-clause-ok
returns-clause-ok g c =
    let child = c.args.newborn.now in
    let level = c.args.level in
    let both = c.in_ok-set-2.ensures.ok ∙ ap (λ (K : Levels). with_level K child.write level) c.in_ok-set.ensures.ok in
    owning _ _ _ _ level L3 child.owned.now child.jobs.now c.in_ok-label.ensures.ok c.in_ok-set_each.ensures.ok child.read child.write
    (c.in_ok-set_each-2.ensures.ok ∙ ap (λ (K : Levels). with_levels K (each_at L3 child.jobs.now)) both)
