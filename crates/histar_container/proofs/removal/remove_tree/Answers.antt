-- Proves the goals of `remove_tree` of src/removal.rt that the search leaves open.
use Rattle.std.proofs.Common.{◌≡◌, nat_eq, true, subst, sym, arith}
use Rattle.std.specs.Prelude.{◌↔◌}
use Rattle.std.specs.Set.{is_member}
use Rattle.histar_object.specs.Objects.{objects_of}
use Rattle.histar_container.specs.Tree.{Reached}
use Rattle.histar_container.proofs.Removals.{removes_more, cut_done}
use Rattle.histar_container.proofs.removal.remove_tree.Goals as goal

pub loop-number-preserved : goal.loop-number-preserved
loop-number-preserved g c =
    removes_more (objects_of c.unlink.new.table) (objects_of c.loop-number.table) (objects_of c.remove.new.self)
    c.deref-number-items.result.now c.loop-number.number-index c.number-item.result
    (omega arith) c.number-item.is c.remove.ensures.without c.loop-number.invariant

pub returns-clause-ok : goal.returns-clause-ok
returns-clause-ok g c =
    cut_done (objects_of c.args.table.now) (objects_of c.unlink.new.table) (objects_of c.loop-number.table)
    c.requires.tree c.args.container c.args.object c.requires.linked
    c.deref-number-items.result.now c.loop-number.number-index (omega arith)
    (λ q. subst (λ l. (is_member nat_eq l q ≡ true) ↔ Reached (objects_of c.args.table.now) c.args.object q)
    (sym c.deref-number-items.ensures.value) (c.in_ok-gone.ensures.ok q))
    c.unlink.ensures c.loop-number.invariant
