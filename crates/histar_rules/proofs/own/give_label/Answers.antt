-- Proves the goals of `give_label` of src/own.rt that the search leaves open.
use Rattle.std.proofs.Common.{ap, ◌∙◌}
use Rattle.histar_object.specs.declared.objects.Object.{Object}
use Rattle.histar_object.specs.Objects.{objects_of}
use Rattle.histar_object.proofs.Changes.{put_changed}
use Rattle.histar_container.proofs.Links.{on_some}
use Rattle.histar_rules.proofs.Relabelled.{changed_none}
use Rattle.histar_rules.proofs.own.give_label.Goals as goal

pub returns-in-Some : goal.returns-in-Some
returns-in-Some g c =
    let left : Object g.row.L.Denot = record { label = c.args.label; kind = c.in-Some.found.now.kind } in
    (on_some _ _ _ c.in-Some.is (c.get_mut.follows.holds left)).objects
    ∙ put_changed _ _ _ _ c.in-Some.ensures.value

pub returns-in_default : goal.returns-in_default
returns-in_default g c =
    ap objects_of (c.get_mut.follows.holds-at-none)
    ∙ changed_none _ _ _ c.in_default.ensures.value
