-- The processes that the process segments of a state list, from that of process 0 on.
use Rattle.std.specs.Prelude.{◌≡◌, ℕ, zero, suc, ◌-◌, List, [], ◌∷◌, ◌++◌, length, Option, None, Some, MatchOption, Result, Ok, Err}
use Rattle.std.specs.Global.{Vec}
use Rattle.std.specs.List.{filter_map, range_with_len}
use Rattle.histar_flat.specs.Words.{ProcName, most_numbers}
use Rattle.histar_flat.specs.Accounts.{Accounts}
use Rattle.histar_object.specs.State.{State}
use Rattle.histar_layout.specs.Reading.{◌>>=◌}
use Rattle.histar_layout.specs.Status.{child_at}
use Rattle.histar_layout.specs.declared.status.Child.{Child}
use Rattle.histar_programs.specs.declared.roots.Home.{Home}
use Rattle.histar_programs.specs.declared.roots.Roots.{Roots}
use Rattle.histar_programs.specs.Caller.{status_at}
use Rattle.histar_process.specs.Parts.{home_of}
use Rattle.histar_readout.specs.Process.{node_in}
use Rattle.histar_readout.specs.declared.process.ProcessNode.{ProcessNode}
use Rattle.histar_readout.specs.declared.process.ProcessError.{ProcessError}
use Rattle.histar_readout.specs.declared.process.ProcessError.TheVariants.{NoProcess, OutOfMemory}

-- the child of this number that a process segment lists
abbrev pub child_of : State → ℕ → ℕ → Option Child
child_of s segment number = do
  status ← status_at s segment
  child_at status.children number

-- its children, by rising numbers, where this many were born
abbrev pub children_of : State → ℕ → ℕ → List Child
children_of s segment born = filter_map (child_of s segment) (range_with_len 1 born)

-- the processes at a name and below it, for the place of that process, or none
abbrev pub Found : Type 0
Found = ProcName → Home → Option (List ProcessNode)

-- the processes of children, one child after another
abbrev pub all_of : Found → ProcName → List Child → Option (List ProcessNode)
all_of found me [] = Some []
all_of found me (child ∷ children) = do
  first ← found (child.number ∷ me) (home_of child)
  rest ← all_of found me children
  Some (first ++ rest)

-- The processes at a name and below it, down to this many levels: the process itself, and then its children, each with its own children.
abbrev pub processes_at : ℕ → Accounts → State → Found
processes_at zero accounts s me home = None
processes_at (suc levels) accounts s me home = do
  node ← node_in accounts s me home
  below ← all_of (processes_at levels accounts s) me (children_of s home.segment node.born)
  Some (node ∷ below)

-- the number of levels of processes at a name and below it, where no name has more numbers than can be shown
abbrev pub levels_at : ProcName → ℕ
levels_at me = suc (most_numbers - length me)

-- these are the processes of a state: those from process 0 on
unfoldable pub AreProcessesOf : Accounts → State → Roots → List ProcessNode → Type 0
AreProcessesOf accounts s roots processes = processes_at (levels_at []) accounts s [] roots.home ≡ Some processes

-- a state has no processes
abbrev pub HasNoProcesses : Accounts → State → Roots → Type 0
HasNoProcesses accounts s roots = (processes : List ProcessNode) → AreProcessesOf accounts s roots processes → ⊥

-- the found ones are the processes of a state, and none were found exactly where it has none
abbrev pub FindsProcesses : Accounts → State → Roots → Option (Vec ProcessNode) → Type 0
FindsProcesses accounts s roots found = MatchOption found (HasNoProcesses accounts s roots) (λ processes. AreProcessesOf accounts s roots processes.items)

-- these processes were added, or there are none of this kind
abbrev pub Adds : Option (List ProcessNode) → List ProcessNode → List ProcessNode → Result (Unit {0}) ProcessError → Type 0
Adds some old new (Ok done) = (processes : List ProcessNode) × (some ≡ Some processes) × (new ≡ old ++ processes)
Adds some old new (Err NoProcess) = some ≡ None
Adds some old new (Err OutOfMemory) = Unit {0}

-- the processes at a name and below it were added
abbrev pub AddsProcesses : Accounts → State → ProcName → Home → List ProcessNode → List ProcessNode → Result (Unit {0}) ProcessError → Type 0
AddsProcesses accounts s me home = Adds (processes_at (levels_at me) accounts s me home)
