-- The processes of a machine.
use Rattle.std.specs.Prelude.{List}
use Rattle.histar_syscall.specs.KernelModel.{state}
use Rattle.histar_readout.specs.declared.process.ProcessNode.{ProcessNode}
use Rattle.histar_readout.specs.Processes.{AreProcessesOf}
use Rattle.histar_shell.specs.Machine.{MachineModel}

-- the objects of a machine's kernel list these processes from process 0 on
abbrev pub AreProcessesIn : MachineModel → List ProcessNode → Type 0
AreProcessesIn m processes = AreProcessesOf m.users (state m.kernel) m.roots processes

-- the objects of a machine's kernel list some processes
abbrev pub HasProcesses : MachineModel → Type 0
HasProcesses m = (processes : List ProcessNode) × AreProcessesIn m processes
