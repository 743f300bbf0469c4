-- The invariants and measures of `node_at` of src/way.rt.
use Rattle.std.proofs.Common.{◌≡◌, drop}
use Rattle.histar_trust.specs.Findings.{node_at}
use Rattle.histar_trust.proofs.way.node_at.Given as goal

abbrev pub invariant-loop-node : goal.invariant-loop-node
invariant-loop-node l = node_at l.names l.tree ≡ node_at l.names (drop l.node-index l.tree)
