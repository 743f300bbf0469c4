-- Proves the goals of `reached_from` of src/removal.rt that the search leaves open.
use Rattle.std.proofs.Common.{arith}
use Rattle.histar_object.specs.Objects.{objects_of}
use Rattle.histar_container.proofs.Removals.{gathers_init, step_gathers, step_in_list, step_fewer, gathers_end}
use Rattle.histar_container.proofs.removal.reached_from.Goals as goal

pub loop-read-init : goal.loop-read-init
loop-read-init g c = record {
  in_list = omega arith;
  gathers =
      gathers_init (objects_of c.args.table.now) c.args.object c.new-list.result.items c.push.new.list.items
      c.new-list.ensures.items c.in_ok-push.ensures.items;
}

pub loop-read-smaller : goal.loop-read-smaller
loop-read-smaller g c =
    step_fewer c.args.table.now c.requires.tree c.args.container c.args.object c.requires.linked c.loop-read.list.items
    c.append_links.new.list.items c.loop-read.read c.index-number.result.now
    (omega arith) c.index-number.ensures c.loop-read.invariant.gathers c.in_ok-append_links.ensures.ok

pub loop-read-preserved : goal.loop-read-preserved
loop-read-preserved g c = record {
  in_list =
      step_in_list c.args.table.now c.requires.tree c.args.container c.args.object c.requires.linked
      c.loop-read.list.items c.append_links.new.list.items c.loop-read.read c.index-number.result.now
      (omega arith) c.index-number.ensures c.loop-read.invariant.gathers c.in_ok-append_links.ensures.ok;
  gathers =
      step_gathers c.args.table.now c.requires.tree c.args.container c.args.object c.requires.linked
      c.loop-read.list.items c.append_links.new.list.items c.loop-read.read c.index-number.result.now
      (omega arith) c.index-number.ensures c.loop-read.invariant.gathers c.in_ok-append_links.ensures.ok;
}

pub returns-clause-ok : goal.returns-clause-ok
returns-clause-ok g c =
    gathers_end (objects_of c.args.table.now) c.args.object c.loop-read.list.items c.loop-read.read (omega arith)
    c.loop-read.invariant.gathers
