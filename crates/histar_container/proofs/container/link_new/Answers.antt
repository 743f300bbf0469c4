-- Proves the goals of `link_new` of src/container.rt that the search leaves open.
use Rattle.std.proofs.Common.{ap, ◌∙◌}
use Rattle.histar_object.specs.Objects.{Objects, objects_of, put, changed_at, linking}
use Rattle.histar_object.proofs.Changes.{none_changed}
use Rattle.histar_container.proofs.container.link_new.Goals as goal

pub add_reserved-requires-clause-absent : goal.add_reserved-requires-clause-absent
add_reserved-requires-clause-absent g c =
    (λ i. c.in_ok-link.ensures.ok i c.args.number)
    ∙ (λ i. changed_at (c.reserve.ensures.objects i) c.args.container (linking c.args.number) c.args.number)
    ∙ none_changed (objects_of c.args.table.now) c.args.container (linking c.args.number) c.args.number c.requires

pub returns-clause-ok : goal.returns-clause-ok
returns-clause-ok g c =
    c.add_reserved.ensures.objects
    ∙ ap (λ (f : Objects g.row.L.Denot). put f c.args.number c.args.object)
    (c.in_ok-link.ensures.ok ∙ ap (λ (f : Objects g.row.L.Denot). changed_at f c.args.container (linking c.args.number)) c.reserve.ensures.objects)
