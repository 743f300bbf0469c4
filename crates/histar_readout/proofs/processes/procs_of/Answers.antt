-- Proves the goals of `procs_of` of src/processes.rt that the search leaves open.
use Rattle.histar_syscall.specs.KernelModel.{state}
use Rattle.histar_readout.proofs.AddingProcesses.{processes_added, no_processes_added}
use Rattle.histar_readout.proofs.processes.procs_of.Goals as goal

pub returns-in-Ok-clause-ok : goal.returns-in-Ok-clause-ok
returns-in-Ok-clause-ok g c =
    processes_added c.args.users.now (state c.args.kernel.now) c.args.roots.now c.zero.result c.zero.ensures
    c.new-processes.result.items c.push_process.new.processes.items c.push_process.result c.push_process.ensures.adds
    c.in-Ok.field-0 c.in-Ok.is
    c.new-processes.ensures.items

pub returns-in-Err-NoProcess-clause-ok : goal.returns-in-Err-NoProcess-clause-ok
returns-in-Err-NoProcess-clause-ok g c =
    no_processes_added c.args.users.now (state c.args.kernel.now) c.args.roots.now c.zero.result c.zero.ensures
    c.new-processes.result.items c.push_process.new.processes.items c.push_process.result c.push_process.ensures.adds
    c.in-Err-NoProcess.field-0
    c.in-Err-NoProcess.is c.in-Err-NoProcess.field-0-is
