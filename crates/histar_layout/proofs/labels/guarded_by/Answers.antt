-- Proves the goals of `guarded_by` of src/labels.rt that the search leaves open.
use Rattle.histar_level.specs.declared.level.Level.TheVariants.{L1, L0, L3}
use Rattle.histar_layout.specs.Labelling.{each_at}
use Rattle.histar_layout.proofs.LabellingLemmas.{made_by_both}
use Rattle.histar_layout.proofs.labels.guarded_by.Goals as goal

pub returns-clause-ok : goal.returns-clause-ok
returns-clause-ok g c =
    made_by_both c.in_ok-label.label c.set_each.new.label c.set_each-2.new.label L1 (each_at L3 c.args.secret.now)
    (each_at L0 c.args.written.now) c.in_ok-label.ensures.ok c.in_ok-set_each.ensures.ok c.in_ok-set_each-2.ensures.ok
