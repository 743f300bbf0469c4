-- Proves the goals of `give_clearance` of src/own.rt that the search leaves open.
use Rattle.std.proofs.Common.{ap, ◌∙◌}
use Rattle.histar_object.specs.declared.objects.Object.{Object}
use Rattle.histar_object.specs.Objects.{objects_of, put}
use Rattle.histar_object.proofs.Changes.{put_changed}
use Rattle.histar_container.proofs.Links.{on_some}
use Rattle.histar_rules.proofs.Relabelled.{changed_none}
use Rattle.histar_rules.proofs.own.give_clearance.Goals as goal

pub returns-in-Some : goal.returns-in-Some
returns-in-Some g c =
    let left : Object g.row.L.Denot = record { label = c.in-Some.found.now.label; kind = c.set_kind_clearance.new.kind } in
    (on_some _ _ _ c.in-Some.is (c.get_mut.follows.holds left)).objects
    ∙ ap (λ k. put (objects_of c.args.table.now) c.args.object (record { label = c.in-Some.found.now.label; kind = k })) c.set_kind_clearance.ensures
    ∙ put_changed _ _ _ _ c.in-Some.ensures.value

pub returns-in_default : goal.returns-in_default
returns-in_default g c =
    ap objects_of (c.get_mut.follows.holds-at-none)
    ∙ changed_none _ _ _ c.in_default.ensures.value
