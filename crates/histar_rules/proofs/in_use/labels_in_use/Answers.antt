-- Proves the goals of `labels_in_use` of src/in_use.rt that the search leaves open.
use Rattle.std.proofs.Common.{ap, ◌∙◌}
use Rattle.histar_object.specs.Objects.{objects_of}
use Rattle.histar_rules.proofs.Moving.{labels_more}
use Rattle.histar_rules.proofs.in_use.labels_in_use.Goals as goal

pub objects-preserved : goal.objects-preserved
objects-preserved g c =
    labels_more _ _ _ c.put_labels_at.ensures.keeps _ _ c.requires
    (λ o is. c.in_ok-exceptions.ensures.has o (ap (objects_of c.args.table.now) c.new.ensures ∙ is)) c.objects.invariant
