-- Proves the goals of `tree_of` of src/tree.rt that the search leaves open.
use Rattle.histar_syscall.specs.KernelModel.{state}
use Rattle.histar_readout.proofs.Adding.{tree_added, no_tree_added}
use Rattle.histar_readout.proofs.tree.tree_of.Goals as goal

pub returns-in-Ok-clause-ok : goal.returns-in-Ok-clause-ok
returns-in-Ok-clause-ok g c =
    tree_added c.args.users.now (state c.args.kernel.now) c.args.roots.now c.root.result c.root.ensures
    c.new-tree.result.items c.push_tree.new.tree.items c.push_tree.result c.push_tree.ensures.adds c.in-Ok.field-0
    c.in-Ok.is c.new-tree.ensures.items

pub returns-in-Err-NotATree-clause-ok : goal.returns-in-Err-NotATree-clause-ok
returns-in-Err-NotATree-clause-ok g c =
    no_tree_added c.args.users.now (state c.args.kernel.now) c.args.roots.now c.root.result c.root.ensures
    c.new-tree.result.items c.push_tree.new.tree.items c.push_tree.result c.push_tree.ensures.adds
    c.in-Err-NotATree.field-0 c.in-Err-NotATree.is c.in-Err-NotATree.field-0-is
