-- The invariants and measures of `add_processes` of src/gathering.rt.
use Rattle.std.proofs.Common.{take}
use Rattle.histar_ever.specs.Gathering.{AddsProcesses}
use Rattle.histar_ever.proofs.gathering.add_processes.Given as goal

abbrev pub invariant-loop-runner : goal.invariant-loop-runner
invariant-loop-runner l = AddsProcesses (take l.runner-index l.runners) l.fn.processes l.processes
