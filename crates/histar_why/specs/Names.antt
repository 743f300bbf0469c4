-- Processes with their jobs by name, and what is known of a machine.
use Rattle.std.specs.Prelude.{◌≡◌, ℕ, List, [], map, Option, None, Some, slice_get}
use Rattle.histar_flat.specs.Words.{ProcName}
use Rattle.histar_flat.specs.Accounts.{Accounts}
use Rattle.histar_flat.specs.Classes.{Process}
use Rattle.histar_flat.specs.FlatState.{Flat}
use Rattle.histar_flat.specs.Meaning.{boot, flat_end}
use Rattle.histar_flat.specs.declared.calls.CallLine.{CallLine}
use Rattle.histar_object.specs.State.{State}
use Rattle.histar_syscall.specs.KernelModel.{state}
use Rattle.histar_layout.specs.Reading.{◌>>=◌}
use Rattle.histar_programs.specs.Caller.{home_at}
use Rattle.histar_programs.specs.declared.roots.Home.{Home}
use Rattle.histar_readout.specs.Process.{node_in}
use Rattle.histar_readout.specs.declared.process.Life.{Life}
use Rattle.histar_readout.specs.declared.process.Life.TheVariants.{Running, Exited}
use Rattle.histar_readout.specs.declared.process.ProcessNode.{ProcessNode}
use Rattle.histar_names.specs.Births.{Births}
use Rattle.histar_names.specs.KnownBirths.{NamesBirths}
use Rattle.histar_names.specs.declared.purposes.Purpose.{Purpose}
use Rattle.histar_names.specs.declared.purposes.Purpose.TheVariants.{Job}
use Rattle.histar_shell.specs.Machine.{MachineModel}
use Rattle.histar_shell.specs.Meaning.{Shows}
use Rattle.histar_why.specs.declared.names.Caller.{Caller}

-- the name of the job that was found, or process 0
abbrev pub named_or_zero : Option (Option Purpose) → ProcName
named_or_zero (Some (Some (Job job))) = job
named_or_zero _ = []

-- the name of the job of a category
abbrev pub job_named : Births → ℕ → ProcName
job_named births c = named_or_zero (slice_get births c)

-- the process of this name, where the process segments list it
abbrev pub node_at : Accounts → State → Home → ProcName → Option ProcessNode
node_at accounts s first me = do
  home ← home_at s first me
  node_in accounts s me home

-- a process that runs, as the rules have it
abbrev pub process_of : Caller → Process
process_of caller =
    record {
      user = caller.user;
      chain = caller.chain.items;
      held = caller.held.items;
      exited = None;
      born = caller.born;
    }

-- a process with these jobs and this life, with each job by its name, if it runs
abbrev pub caller_in : Births → List ℕ → ℕ → Life → Option Process
caller_in births chain born (Running user held) =
    Some (record {
      user = user;
      chain = map (job_named births) chain;
      held = map (job_named births) held;
      exited = None;
      born = born;
    })
caller_in births chain born (Exited number) = None

-- a process with its jobs by name, if it runs
abbrev pub caller_by : Births → ProcessNode → Option Process
caller_by births node = caller_in births node.chain node.born node.life

-- the process of this name with its jobs by name, if it runs
abbrev pub running_at : Accounts → Births → State → Home → ProcName → Option Process
running_at accounts births s first me = do
  node ← node_at accounts s first me
  caller_by births node

-- the flat state is one to which calls lead from the start
abbrev pub IsReached : Accounts → Flat → Type 0
IsReached accounts f = (calls : List CallLine) × (f ≡ flat_end accounts (boot accounts) calls)

-- a machine represents a flat state to which calls lead, and what was noted of its categories is right
pub record Knows (births : Births) (accounts : Accounts) (m : MachineModel) (f : Flat) : Type 0 where
  pub shows : Shows accounts m f
  pub reached : IsReached accounts f
  pub names : NamesBirths births accounts (state m.kernel) f
