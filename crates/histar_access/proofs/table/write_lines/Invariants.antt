-- The invariants and measures of `write_lines` of src/table.rt.
use Rattle.std.proofs.Common.{◌≡◌, drop}
use Rattle.std.specs.Global.{Vec}
use Rattle.std.specs.Prelude.{map}
use Rattle.histar_syscall.specs.KernelModel.{state}
use Rattle.histar_cells.specs.declared.cells.Cell.{Cell}
use Rattle.histar_access.proofs.Writing.{IsWritten}
use Rattle.histar_access.proofs.table.write_lines.Given as goal

abbrev pub invariant-lines : goal.invariant-lines
invariant-lines g l = record {
  written : IsWritten (state l.machine.kernel) l.visitors l.tree (g.W.Sink.written l.fn.writer) (g.W.Sink.written l.writer)
      (map (λ (row : Vec Cell). row.items) l.way.items) (drop l.node-index l.tree);
  count : g.W.Sink.failures l.writer ≡ g.W.Sink.failures l.fn.writer;
}
