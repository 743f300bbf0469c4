-- Proves the goals of `trusted_text` of src/claims.rt that the search leaves open.
use Rattle.std.proofs.Common.{subst, sym}
use Rattle.histar_shell.specs.Ending.{IsTreeIn}
use Rattle.histar_trust.proofs.ShownTrust.{has_tree}
use Rattle.histar_test.proofs.claims.trusted_text.Goals as goal

pub tree-requires : goal.tree-requires
tree-requires c = has_tree c.requires.2

pub trusted_in-requires-clause-tree : goal.trusted_in-requires-clause-tree
trusted_in-requires-clause-tree c = subst (IsTreeIn c.args.machine.now) (sym c.as_slice.ensures.value) c.in_ok-tree.ensures.ok
