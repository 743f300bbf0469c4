-- Proves the goals of `unlink` of src/container.rt that the search leaves open.
use Rattle.std.proofs.Common.{rules}
use Rattle.histar_object.specs.declared.objects.Object.{Object}
use Rattle.histar_object.specs.declared.objects.Kind.TheVariants.{Container}
use Rattle.histar_object.specs.Objects.{objects_of}
use Rattle.histar_object.specs.Lending.{ChangesObject}
use Rattle.histar_container.proofs.Links.{on_some, unlinked_there, unlinked_not}
use Rattle.histar_container.proofs.container.unlink.Goals as goal

pub returns-in-Container : goal.returns-in-Container
returns-in-Container g c =
    let left : Object g.row.L.Denot = record { label = c.in-Some.holder.now.label; kind = Container c.remove.new.self } in
    unlinked_there (objects_of c.args.table.now) c.args.container c.args.object c.in-Some.holder.now
    c.in-Container.links c.in-Some.ensures.value c.in-Container.is
    c.remove.new.self _ c.remove.ensures
    (on_some c.get_mut.result c.in-Some.holder
    (ChangesObject c.args.table.now c.args.container left (c.get_mut.follows.lender left)) c.in-Some.is
    (c.get_mut.follows.holds left)).objects

pub returns-in_default-kind : goal.returns-in_default-kind
returns-in_default-kind g c =
    let left : Object g.row.L.Denot = record { label = c.in-Some.holder.now.label; kind = c.in-Some.holder.now.kind } in
    unlinked_not (objects_of c.args.table.now) _ c.args.container c.args.object left c.in-Some.ensures.value (search rules)
    (on_some c.get_mut.result c.in-Some.holder
    (ChangesObject c.args.table.now c.args.container left (c.get_mut.follows.lender left)) c.in-Some.is
    (c.get_mut.follows.holds left)).objects
