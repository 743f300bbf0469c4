-- Proves the goals of `guarding_label` of src/birth.rt that the search leaves open.
use Rattle.std.proofs.Common.{◌∙◌}
use Rattle.histar_level.specs.declared.level.Level.TheVariants.{L0, L1, L3}
use Rattle.histar_layout.proofs.LabellingLemmas.{guarding}
use Rattle.histar_process.proofs.birth.guarding_label.Goals as goal

pub returns-clause-ok : goal.returns-clause-ok
returns-clause-ok g c =
    let guard = c.args.guard.now in
    c.in_ok-set.ensures.ok
    ∙ guarding _ _ _ L1 L3 L0 guard.own.now guard.jobs.now c.in_ok-label.ensures.ok c.in_ok-set_each.ensures.ok _ c.in_ok-set_each-2.ensures.ok
