-- Proves the goals of `all_titles` of src/titles.rt that the search leaves open.
use Rattle.std.proofs.Common.{subst, sym}
use Rattle.histar_shell.specs.Ending.{IsTreeIn}
use Rattle.histar_trust.proofs.ShownTrust.{has_tree}
use Rattle.histar_leak.proofs.titles.all_titles.Goals as goal

pub tree-requires : goal.tree-requires
tree-requires g c = has_tree c.requires.1

pub tree_titles-requires-clause-tree : goal.tree_titles-requires-clause-tree
tree_titles-requires-clause-tree g c = subst (IsTreeIn c.args.machine.now) (sym c.as_slice.ensures.value) c.in_ok-tree.ensures.ok
