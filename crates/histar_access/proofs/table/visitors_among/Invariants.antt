-- The invariants and measures of `visitors_among` of src/table.rt.
use Rattle.std.proofs.Common.{◌≡◌, take}
use Rattle.std.specs.List.{filter_map}
use Rattle.histar_syscall.specs.KernelModel.{state}
use Rattle.histar_access.specs.Cells.{visitor_of}
use Rattle.histar_access.proofs.table.visitors_among.Given as goal

abbrev pub invariant-loop-process : goal.invariant-loop-process
invariant-loop-process g l = l.visitors.items ≡ filter_map (visitor_of (state l.machine.kernel) l.machine.roots) (take l.process-index l.processes)
