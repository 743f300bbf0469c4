-- The invariants and measures of `show_tree` of src/observation.rt.
use Rattle.std.proofs.Common.{◌≡◌, map, take}
use Rattle.histar_syscall.specs.KernelModel.{state}
use Rattle.histar_readout.specs.TreeLines.{line_at}
use Rattle.histar_comparison.specs.Observation.{line_text}
use Rattle.histar_comparison.proofs.observation.show_tree.Given as goal

abbrev pub invariant-nodes : goal.invariant-nodes
invariant-nodes g l = l.lines.items ≡ map (λ node. line_text (line_at (state l.machine.kernel) node)) (take l.node-index l.node-items)
