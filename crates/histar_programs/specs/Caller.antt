-- Where processes are found in a state, by the bytes of process segments and the labels of containers alone.
use Rattle.std.specs.Prelude.{ℕ, Bool, true, false, not, ◌&&◌, [], ◌∷◌, Option, None, Some, option_map, if◌then◌else◌}
use Rattle.std.specs.List.{find}
use Rattle.std.specs.FinSet as set
use Rattle.histar_flat.specs.Words.{ProcName}
use Rattle.histar_level.specs.declared.level.Level.{Level}
use Rattle.histar_level.specs.declared.level.Level.TheVariants.{L0}
use Rattle.histar_level.specs.Levels.{Levels, level_of, exceptions_of}
use Rattle.histar_object.specs.Objects.{is_thread, label_there, links_in}
use Rattle.histar_object.specs.State.{State}
use Rattle.histar_syscall.specs.KernelModel.{lent_bytes}
use Rattle.histar_layout.specs.Reading.{◌>>=◌}
use Rattle.histar_layout.specs.Status.{ProcessStatus, child_at, status_in}
use Rattle.histar_layout.specs.Jobs.{is_three}
use Rattle.histar_programs.specs.declared.roots.Home.{Home}
use Rattle.histar_programs.specs.declared.caller.Caller.{Caller}

-- level 0
abbrev pub is_zero : Level → Bool
is_zero L0 = true
is_zero level = false

-- the category by which a process writes: the one that the label of its container has at 0
abbrev pub write_category_in : Levels → Option ℕ
write_category_in outer = option_map (λ e. e.0) (find (λ e. is_zero e.1) (exceptions_of outer))

-- The category by which a process keeps its secrets: the label of its internal container has it at 3, and the label of its container
-- doesn't.
abbrev pub read_category_in : Levels → Levels → Option ℕ
read_category_in outer inner = option_map (λ e. e.0) (find (λ e. is_three e.1 && not (is_three (level_of outer e.0))) (exceptions_of inner))

-- the status that a process segment holds
abbrev pub status_at : State → ℕ → Option ProcessStatus
status_at s segment = status_in (lent_bytes s segment)

-- a container links an object
abbrev pub is_linked : State → ℕ → ℕ → Bool
is_linked s container object = set.contains (links_in (s.objects container)) object

-- where the child of this number is: the segment of the process lists it, and its container links the child's
abbrev pub child_home : State → Home → ℕ → Option Home
child_home s home n = do
  status ← status_at s home.segment
  child ← child_at status.children n
  if is_linked s home.container child.container then Some (record { container = child.container; segment = child.segment }) else None

-- where a process is found: process 0 where boot left it, and each other one as a child of the process above it
abbrev pub home_at : State → Home → ProcName → Option Home
home_at s first [] = Some first
home_at s first (n ∷ above) = do
  home ← home_at s first above
  child_home s home n

-- a value, where the process runs
abbrev pub if_runs : {A : Type 0} → Option ℕ → Option A → Option A
if_runs None x = x
if_runs (Some number) x = None

-- a process with this internal container and this thread, and with its own two categories
abbrev pub labelled_caller : State → Home → ℕ → ℕ → Option Caller
labelled_caller s home internal thread = do
  outer ← label_there (s.objects home.container)
  inner ← label_there (s.objects internal)
  write ← write_category_in outer
  read ← read_category_in outer inner
  Some (record { home = home; thread = thread; read = read; write = write })

-- a container links another one, which links this thread
abbrev pub leads_to : State → ℕ → ℕ → ℕ → Bool
leads_to s container internal thread = is_linked s container internal && is_linked s internal thread && is_thread (s.objects thread)

-- a process that runs with this internal container and this thread, if its container leads to them
abbrev pub running_caller : State → Home → ℕ → ℕ → Option Caller
running_caller s home internal thread = if leads_to s home.container internal thread then labelled_caller s home internal thread else None

-- a process that runs, with its thread and its own two categories, by the status in its segment
abbrev pub caller_by : State → Home → ProcessStatus → Option Caller
caller_by s home status = if_runs status.exited (running_caller s home status.internal status.thread)

-- the process that is found there, if it runs
abbrev pub caller_in : State → Home → Option Caller
caller_in s home = do
  status ← status_at s home.segment
  caller_by s home status

-- the process of this name, if it was born, was not killed and runs
abbrev pub caller_at : State → Home → ProcName → Option Caller
caller_at s first name = do
  home ← home_at s first name
  caller_in s home
