-- Proves the goals of `LabelledObjects::label` of src/labelled.rt that the search leaves open.
use Rattle.std.proofs.Common.{sym, ap, ◌∙◌}
use Rattle.std.specs.Option.{option_copied}
use Rattle.histar_container.proofs.Keeping.{copied_some}
use Rattle.histar_rules.proofs.labelled.LabelledObjects.label.Goals as goal

pub unwrap-requires : goal.unwrap-requires
unwrap-requires g c =
    copied_some _ _ c.get-in-Some.ensures ((c.self.invariant.stand.each c.args.object c.in-Some.object.now
    (sym c.get.ensures ∙ ap option_copied c.in-Some.is)).label)
