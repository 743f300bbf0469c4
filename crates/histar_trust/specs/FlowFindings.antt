-- What is computed from a machine's running processes: to whom each can pass on what it learns.
use Rattle.std.specs.Prelude.{◌≡◌, ℕ, Bool, true, false, not, ◌&&◌, ◌||◌, List, [], ◌∷◌, ◌++◌, codes, nat_eq, if◌then◌else◌}
use Rattle.std.specs.List.{flat_map, list_all, list_any}
use Rattle.histar_base.specs.Paths.{same}
use Rattle.histar_flat.specs.Accounts.{Accounts}
use Rattle.histar_flat.specs.FlatState.{Flat}
use Rattle.histar_flat.specs.Texts.{process_text}
use Rattle.histar_secrecy.specs.declared.role.Member.{Member}
use Rattle.histar_shell.specs.Machine.{MachineModel}
use Rattle.histar_trust.specs.Findings.{ShowsReached}
use Rattle.histar_trust.specs.FlowsText.{flows_text}

-- the job is one of these, by numbers
abbrev pub has_number : List ℕ → ℕ → Bool
has_number jobs job = list_any (nat_eq job) jobs

-- the process is in the job of this number, or holds it
abbrev pub knows_number : Member → ℕ → Bool
knows_number m job = has_number m.jobs.items job || has_number m.held.items job

-- the second process is another one than the first, and knows each job that the first one is in
abbrev pub is_shown_observer : Member → Member → Bool
is_shown_observer p m = not (same p.name m.name) && list_all (knows_number m) p.jobs.items

-- the second process holds a job that the first one is in
abbrev pub shows_held : Member → Member → Bool
shows_held p m = list_any (has_number m.held.items) p.jobs.items

-- a process is in no job
abbrev pub is_shown_free : Member → Bool
is_shown_free m = elim m.jobs.items [ [] ↦ true | job ∷ jobs ↦ false ]

-- a process after a space, with `!` behind it if it holds a job that the first one is in
abbrev pub shown_name : Member → Member → List ℕ
shown_name p m = codes " " ++ process_text m.name ++ (if shows_held p m then codes "!" else [])

-- this of a process that is an observer of the first one, and nothing of all others
abbrev pub shown_observer : Member → Member → List ℕ
shown_observer p m = if is_shown_observer p m then shown_name p m else []

-- the observers of a process among these, as they are printed
abbrev pub shown_observers : List Member → Member → List ℕ
shown_observers members p =
    if list_any (is_shown_observer p) members then flat_map (shown_observer p) members else codes " nobody"

-- the line of a process, as it is printed
abbrev pub shown_line : List Member → Member → List ℕ
shown_line members p =
    process_text p.name ++ codes " " ++ p.user ++ codes " tells" ++ shown_observers members p ++ codes "\n"

-- this of a process that is in a job, and nothing of all others
abbrev pub shown_flow : List Member → Member → List ℕ
shown_flow members p = if is_shown_free p then [] else shown_line members p

-- a process that is in no job after a space, and nothing for all others
abbrev pub shown_free_name : Member → List ℕ
shown_free_name m = if is_shown_free m then codes " " ++ process_text m.name else []

-- the line of the processes that are in no job, as it is printed
abbrev pub shown_free : List Member → List ℕ
shown_free members =
    if list_any is_shown_free members
    then codes "free" ++ flat_map shown_free_name members ++ codes " tell everyone\n"
    else []

-- the lines of these processes, as they are printed
abbrev pub shown_flows : List Member → List ℕ
shown_flows members = shown_free members ++ flat_map (shown_flow members) members

-- for every flat state that calls lead to and a machine represents, this is its text
abbrev pub ShowsFlows : MachineModel → List ℕ → Type 0
ShowsFlows m text = (accounts : Accounts) (f : Flat) → ShowsReached accounts m f → text ≡ flows_text f
