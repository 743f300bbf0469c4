-- Proves the goals of `link` of src/container.rt that the search leaves open.
use Rattle.std.proofs.Common.{rules}
use Rattle.histar_object.specs.declared.objects.Object.{Object}
use Rattle.histar_object.specs.declared.objects.Kind.TheVariants.{Container}
use Rattle.histar_object.specs.Objects.{objects_of}
use Rattle.histar_object.specs.Lending.{ChangesObject}
use Rattle.histar_container.proofs.Links.{on_some, link_ok, link_err, linked_not}
use Rattle.histar_container.proofs.container.link.Goals as goal

pub returns-in-Container-clause-ok : goal.returns-in-Container-clause-ok
returns-in-Container-clause-ok g c =
    let left : Object g.row.L.Denot = record { label = c.in-Some.holder.now.label; kind = Container c.insert.new.self } in
    link_ok (objects_of c.args.table.now) c.args.container c.args.object c.in-Some.holder.now c.in-Container.links
    c.in-Some.ensures.value c.in-Container.is
    c.insert.result c.insert.new.self _ c.insert.ensures.ok
    (on_some c.get_mut.result c.in-Some.holder
    (ChangesObject c.args.table.now c.args.container left (c.get_mut.follows.lender left)) c.in-Some.is
    (c.get_mut.follows.holds left)).objects

pub returns-in-Container-clause-err : goal.returns-in-Container-clause-err
returns-in-Container-clause-err g c =
    let left : Object g.row.L.Denot = record { label = c.in-Some.holder.now.label; kind = Container c.insert.new.self } in
    link_err (objects_of c.args.table.now) c.args.container c.args.object c.in-Some.holder.now c.in-Container.links
    c.in-Some.ensures.value c.in-Container.is
    c.insert.result c.insert.new.self _ c.insert.ensures.err
    (on_some c.get_mut.result c.in-Some.holder
    (ChangesObject c.args.table.now c.args.container left (c.get_mut.follows.lender left)) c.in-Some.is
    (c.get_mut.follows.holds left)).objects

pub returns-in-Container-clause-room : goal.returns-in-Container-clause-room
returns-in-Container-clause-room g c =
    let left : Object g.row.L.Denot = record { label = c.in-Some.holder.now.label; kind = Container c.insert.new.self } in
    (on_some c.get_mut.result c.in-Some.holder
    (ChangesObject c.args.table.now c.args.container left (c.get_mut.follows.lender left)) c.in-Some.is
    (c.get_mut.follows.holds left)).room

pub returns-in_default-kind : goal.returns-in_default-kind
returns-in_default-kind g c =
    let left : Object g.row.L.Denot = record { label = c.in-Some.holder.now.label; kind = c.in-Some.holder.now.kind } in
    let changes =
    on_some c.get_mut.result c.in-Some.holder
    (ChangesObject c.args.table.now c.args.container left (c.get_mut.follows.lender left)) c.in-Some.is
    (c.get_mut.follows.holds left) in
    record {
      ok = linked_not (objects_of c.args.table.now) _ c.args.container c.args.object left c.in-Some.ensures.value (search rules)
          changes.objects;
      err = tt;
      room = changes.room;
      memory = tt;
    }
