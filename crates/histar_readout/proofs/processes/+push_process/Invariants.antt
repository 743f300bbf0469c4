-- The invariants and measures of `+push_process` of src/processes.rt.
use Rattle.std.proofs.Common.{◌-◌, length}
use Rattle.histar_flat.specs.Words.{most_numbers}
use Rattle.histar_syscall.specs.KernelModel.{state}
use Rattle.histar_readout.proofs.AddingProcesses.{AddsBirths}
use Rattle.histar_readout.proofs.processes.+push_process.Given as goal

-- a process is a level above its children
abbrev pub decreases-push_process : goal.decreases-push_process
decreases-push_process g l = most_numbers - length l.found.now.name

abbrev pub invariant-births : goal.invariant-births
invariant-births g l =
    AddsBirths l.users (state l.kernel) l.found.name l.found.home.segment l.born l.births l.initial.processes.items
    l.processes.items
