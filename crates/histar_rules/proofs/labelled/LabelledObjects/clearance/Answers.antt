-- Proves the goals of `LabelledObjects::clearance` of src/labelled.rt that the search leaves open.
use Rattle.std.proofs.Common.{sym, ap, subst, ◌∙◌}
use Rattle.std.specs.Option.{option_copied}
use Rattle.histar_container.specs.Shown.{KindStands}
use Rattle.histar_container.proofs.Keeping.{copied_some}
use Rattle.histar_rules.proofs.labelled.LabelledObjects.clearance.Goals as goal

pub unwrap-requires : goal.unwrap-requires
unwrap-requires g c =
    let stands = c.self.invariant.stand.each c.args.object c.in-Some.object.now (sym c.get.ensures ∙ ap option_copied c.in-Some.is) in
    copied_some _ _ c.get-in-Thread.ensures (subst (KindStands (g.S.LabelStore.labels c.self.inside.store)) c.in-Thread.is stands.kind)

pub unwrap-requires-in-Gate : goal.unwrap-requires-in-Gate
unwrap-requires-in-Gate g c =
    let stands = c.self.invariant.stand.each c.args.object c.in-Some.object.now (sym c.get.ensures ∙ ap option_copied c.in-Some.is) in
    copied_some _ _ c.get-in-Gate.ensures (subst (KindStands (g.S.LabelStore.labels c.self.inside.store)) c.in-Gate.is stands.kind)
