-- Proves the goals of `LabelledObjects::remove` of src/labelled.rt that the search leaves open.
use Rattle.std.proofs.Common.{◌≡◌, true, sym, subst}
use Rattle.std.specs.FinSet as set
use Rattle.histar_object.specs.Objects.{objects_of, links_in}
use Rattle.histar_container.specs.ObjectsModel.{ObjectsModel}
use Rattle.histar_container.specs.Tree.{AreTree}
use Rattle.histar_container.proofs.KeepingTrees.{trees_there, kept_removed, removed_ok, removed_err}
use Rattle.histar_rules.proofs.labelled.LabelledObjects.remove.Goals as goal

pub remove_tree-requires-clause-tree : goal.remove_tree-requires-clause-tree
remove_tree-requires-clause-tree g c =
    trees_there (g.S.LabelStore.labels c.self.inside.store) c.self.inside.table
    (subst (λ (k : ObjectsModel). AreTree (objects_of k.objects)) (sym c.self.view_is) c.requires.tree)

pub invariant_of-self : goal.invariant_of-self
invariant_of-self g c =
    kept_removed _ _ _ _ _ _ _ c.self.invariant (subst (λ (k : ObjectsModel). AreTree (objects_of k.objects)) (sym c.self.view_is) c.requires.tree)
    (subst (λ (k : ObjectsModel). set.contains (links_in (objects_of k.objects c.args.container)) c.args.object ≡ true)
    (sym c.self.view_is) c.requires.linked) c.remove_tree.ensures.ok c.remove_tree.ensures.err

pub returns-clause-ok : goal.returns-clause-ok
returns-clause-ok g c =
    removed_ok (g.S.LabelStore.labels c.self.inside.store) _ c.remove_tree.new.table _ _ _ _ _ c.self.view_is _ c.remove_tree.ensures.ok

pub returns-clause-err : goal.returns-clause-err
returns-clause-err g c =
    removed_err (g.S.LabelStore.labels c.self.inside.store) _ c.remove_tree.new.table c.args.container c.args.object _ _ _ c.self.view_is
    _ c.remove_tree.ensures.err
