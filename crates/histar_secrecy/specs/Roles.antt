-- Roles: which processes are trusted with what is in a file, which are confined, and which are outsiders.
use Rattle.std.specs.Prelude.{Bool, not, ◌&&◌, ◌||◌, List, [], ◌∷◌}
use Rattle.histar_flat.specs.declared.calls.UnixCall.{UnixCall}
use Rattle.histar_flat.specs.Words.{ProcName}
use Rattle.histar_flat.specs.Accounts.{Accounts}
use Rattle.histar_flat.specs.Classes.{Class, Process, is_free}
use Rattle.histar_flat.specs.FlatState.{Flat, is_some_and}
use Rattle.histar_flat.specs.FlatCalls.{running}
use Rattle.histar_secrecy.specs.Logins.{logs_in_as}
use Rattle.histar_secrecy.specs.Ways.{reads_all}

-- a process without the jobs that it holds
abbrev pub holding_none : Process → Process
holding_none p = record p { held = [] }

-- a process is bound by a way if it is in a job, and reads all of the way by the jobs that it is in, without those that it holds
abbrev pub is_bound : Accounts → List Class → Process → Bool
is_bound accounts way p = not (is_free p) && reads_all accounts way (holding_none p)

-- a process is trusted with a way if it runs, reads all of it, and is not bound
abbrev pub is_trusted : Accounts → List Class → Flat → ProcName → Bool
is_trusted accounts way f me = is_some_and (running f me) (λ p. reads_all accounts way p && not (is_bound accounts way p))

-- the process runs and is bound
abbrev pub runs_bound : Accounts → List Class → Flat → ProcName → Bool
runs_bound accounts way f me = is_some_and (running f me) (is_bound accounts way)

-- a process is confined if it runs and is bound, or is below such a process
abbrev pub is_confined : Accounts → List Class → Flat → ProcName → Bool
is_confined accounts way f [] = runs_bound accounts way f []
is_confined accounts way f (n ∷ above) = runs_bound accounts way f (n ∷ above) || is_confined accounts way f above

-- every other process is an outsider, also one that is not born yet
abbrev pub is_outsider : Accounts → List Class → Flat → ProcName → Bool
is_outsider accounts way f me = not (is_trusted accounts way f me) && not (is_confined accounts way f me)

-- the call logs in as a reader: as a user who may read all of the way, with the user's password
abbrev pub logs_in_as_reader : Accounts → List Class → UnixCall → Bool
logs_in_as_reader accounts way call = logs_in_as accounts (reads_all accounts way) call
