-- The user of a process, by the label of its thread.
use Rattle.std.specs.Prelude.{◌≡◌, length, Option, option_and_then, option_map}
use Rattle.histar_flat.specs.Words.{Name, ProcName}
use Rattle.histar_flat.specs.Accounts.{Accounts}
use Rattle.histar_flat.specs.Classes.{Process}
use Rattle.histar_flat.specs.FlatState.{Flat}
use Rattle.histar_flat.specs.FlatCalls.{running}
use Rattle.histar_level.specs.Levels.{Levels}
use Rattle.histar_object.specs.Objects.{label_there}
use Rattle.histar_object.specs.State.{State}
use Rattle.histar_layout.specs.Categories.{user_of}
use Rattle.histar_programs.specs.declared.caller.Caller.{Caller}
use Rattle.histar_programs.specs.declared.roots.Roots.{Roots}
use Rattle.histar_programs.specs.Caller.{caller_at}
use Rattle.histar_programs.specs.Kin.{user_name}
use Rattle.histar_shell.specs.Machine.{MachineModel}
use Rattle.histar_shell.specs.Meaning.{Shows}

-- the name of the user whose thread has this label
abbrev pub user_by : Accounts → Levels → Name
user_by users own = user_name users.users (user_of own (length users.users))

-- the user of the process of this name, if it runs, by the label of its thread
abbrev pub thread_user : Accounts → State → Roots → ProcName → Option Name
thread_user users s roots me =
    option_and_then (λ (caller : Caller). option_map (user_by users) (label_there (s.objects caller.thread))) (caller_at s roots.home me)

-- the user of a process, if it runs
abbrev pub user_running : Flat → ProcName → Option Name
user_running f me = option_map (λ (p : Process). p.user) (running f me)

-- for every flat state that the machine represents, this is the user of a process in it, if the process runs
abbrev pub IsUserOfProcess : MachineModel → ProcName → Option Name → Type 0
IsUserOfProcess m me user = (accounts : Accounts) (f : Flat) → Shows accounts m f → user ≡ user_running f me
