-- The invariants and measures of `write_nodes` of src/ending.rt.
use Rattle.std.proofs.Common.{◌≡◌, take}
use Rattle.std.specs.Io.KnownBytes.{Appends}
use Rattle.std.specs.List.{flat_map}
use Rattle.histar_syscall.specs.KernelModel.{state}
use Rattle.histar_shell.proofs.EachLine.{node_text}
use Rattle.histar_shell.proofs.ending.write_nodes.Given as goal

abbrev pub invariant-lines : goal.invariant-lines
invariant-lines g l = record {
  written : Appends (g.W.Sink.written l.fn.writer) (g.W.Sink.written l.writer)
      (flat_map (node_text (state l.machine.kernel)) (take l.node-index l.nodes));
  count : g.W.Sink.failures l.writer ≡ g.W.Sink.failures l.fn.writer;
}
