-- Proves the goals of `has_label` of src/class.rt that the search leaves open.
use Rattle.std.proofs.Common.{◌≡◌, Some, sym, ap, ◌∙◌}
use Rattle.std.proofs.lemmas.Option.{same_Some}
use Rattle.histar_level.proofs.Equality.{same_label, own_label}
use Rattle.histar_layout.specs.ClassLabels.{class_label}
use Rattle.histar_layout.proofs.class.has_label.Goals as goal

pub returns-in-Some-clause-ok : goal.returns-in-Some-clause-ok
returns-in-Some-clause-ok g c =
    let due = c.in-Some.due in
    let is : class_label c.args.users.now c.args.class.now ≡ Some due = sym c.in_ok-class_label.ensures.ok ∙ c.in-Some.is in (
      λ same. is ∙ ap Some (same_label due c.args.label.now (sym c.eq.ensures ∙ same)),
      λ label. c.eq.ensures ∙ own_label due c.args.label.now (same_Some due c.args.label.now (sym is ∙ label)),
    )
