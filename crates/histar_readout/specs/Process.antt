-- What a state shows of one process: its user, the jobs that it is in and those that it holds, and whether it runs.
use Rattle.std.specs.Prelude.{◌≡◌, ℕ, not, ◌&&◌, nat_eq, List, ◌∷◌, length, map, Option, None, Some, Result, Ok, Err, if◌then◌else◌}
use Rattle.std.specs.List.{filter}
use Rattle.std.specs.Set.{is_member}
use Rattle.histar_flat.specs.Words.{ProcName}
use Rattle.histar_flat.specs.Accounts.{Accounts}
use Rattle.histar_level.specs.Level.{is_star}
use Rattle.histar_level.specs.Levels.{Levels, exceptions_of}
use Rattle.histar_object.specs.Objects.{is_container, is_thread, label_there}
use Rattle.histar_object.specs.State.{State, Found}
use Rattle.histar_layout.specs.Reading.{◌>>=◌}
use Rattle.histar_layout.specs.Categories.{user_of}
use Rattle.histar_layout.specs.Jobs.{jobs_in}
use Rattle.histar_programs.specs.declared.roots.Home.{Home}
use Rattle.histar_programs.specs.Caller.{caller_in, status_at}
use Rattle.histar_programs.specs.Kin.{kin_of, user_name}
use Rattle.histar_programs.specs.declared.caller.Caller.{Caller}
use Rattle.histar_readout.specs.declared.process.Life.{Life}
use Rattle.histar_readout.specs.declared.process.Life.TheVariants.{Running, Exited}
use Rattle.histar_readout.specs.declared.process.ProcessNode.{ProcessNode}
use Rattle.histar_readout.specs.declared.process.ProcessError.{ProcessError}
use Rattle.histar_readout.specs.declared.process.ProcessError.TheVariants.{NoProcess, OutOfMemory}

-- the label of a container; an object of another kind has none here
abbrev pub container_label : Found → Option Levels
container_label found = if is_container found then label_there found else None

-- the label of a thread; an object of another kind has none here
abbrev pub thread_label : Found → Option Levels
thread_label found = if is_thread found then label_there found else None

-- the categories that a label owns, without these, by rising numbers
abbrev pub owned_beside : List ℕ → Levels → List ℕ
owned_beside known own = map (λ e. e.0) (filter (λ e. is_star e.1 && not (is_member nat_eq known e.0)) (exceptions_of own))

-- The jobs that a process holds, by the label of its thread: the categories that it owns, without the process's own two and those that it
-- owns as its user.
abbrev pub held_by : Accounts → Caller → Levels → List ℕ
held_by accounts caller own = owned_beside (caller.read ∷ caller.write ∷ (kin_of accounts own).owned) own

-- a process that runs, by the label of its thread
abbrev pub running_by : Accounts → Caller → Levels → Life
running_by accounts caller own = Running (user_name accounts.users (user_of own (length accounts.users))) (held_by accounts caller own)

-- a process that runs, where its thread is there
abbrev pub running_at : Accounts → State → Home → Option Life
running_at accounts s home = do
  caller ← caller_in s home
  own ← thread_label (s.objects caller.thread)
  Some (running_by accounts caller own)

-- the life of the process at this place, where its segment contains this number if it has exited
abbrev pub life_in : Accounts → State → Home → Option ℕ → Option Life
life_in accounts s home None = running_at accounts s home
life_in accounts s home (Some number) = Some (Exited number)

-- the process of this name at this place, where its container is there and, if it runs, its thread
abbrev pub node_in : Accounts → State → ProcName → Home → Option ProcessNode
node_in accounts s me home = do
  status ← status_at s home.segment
  outer ← container_label (s.objects home.container)
  life ← life_in accounts s home status.exited
  Some (record { name = me; home = home; chain = jobs_in outer; life = life; born = status.born })

-- the result is this value, or an error where there is none
abbrev pub ReadsFrom : {A : Type 0} → Option A → Result A ProcessError → Type 0
ReadsFrom some (Ok x) = some ≡ Some x
ReadsFrom some (Err NoProcess) = some ≡ None
ReadsFrom some (Err OutOfMemory) = Unit {0}
