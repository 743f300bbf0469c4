-- Proves the goals of `trust_lines` of src/output.rt that the search leaves open.
use Rattle.std.proofs.Common.{subst, sym}
use Rattle.histar_shell.specs.Ending.{IsTreeIn}
use Rattle.histar_trust.proofs.ShownTrust.{has_tree}
use Rattle.histar_trust.proofs.output.trust_lines.Goals as goal

pub tree-requires : goal.tree-requires
tree-requires g c = has_tree c.requires.2

pub lines_in-requires-clause-tree : goal.lines_in-requires-clause-tree
lines_in-requires-clause-tree g c = subst (IsTreeIn c.args.machine.now) (sym c.as_slice.ensures.value) c.in_ok-tree.ensures.ok
