-- Which processes have to be trusted with what is at a path: the text of a flat state.
use Rattle.std.specs.Prelude.{ℕ, Bool, true, false, List, [], ◌++◌, Option, None, Some, codes, filter, map, if◌then◌else◌}
use Rattle.std.specs.List.{flat_map, list_all}
use Rattle.histar_flat.specs.declared.calls.User.{User}
use Rattle.histar_flat.specs.Words.{Name, Path, ProcName}
use Rattle.histar_flat.specs.Accounts.{Accounts}
use Rattle.histar_flat.specs.Files.{get}
use Rattle.histar_flat.specs.Classes.{Class, Process}
use Rattle.histar_flat.specs.Classes.Class.{Readable, Open}
use Rattle.histar_flat.specs.FlatState.{Flat, Node, is_dir}
use Rattle.histar_flat.specs.Texts.{process_text}
use Rattle.histar_rights.specs.Running.{Named, running_in}
use Rattle.histar_rights.specs.Table.{access_line_text, line_of}
use Rattle.histar_secrecy.specs.Ways.{reads_all, way_to}
use Rattle.histar_secrecy.specs.Logins.{logged_in}
use Rattle.histar_secrecy.specs.Roles.{is_confined, is_outsider, is_trusted}
use Rattle.histar_secrecy.specs.Changers.{is_changer, may_change}
use Rattle.histar_trust.specs.Reasons.{binding_job, by_job, by_path, if_asked, power_path}

-- a word, a process and its user
abbrev pub process_entry : List ℕ → ProcName × Name → List ℕ
process_entry word p = word ++ codes " " ++ process_text p.0 ++ codes " " ++ p.1

-- a word and a user
abbrev pub user_entry : List ℕ → Name → List ℕ
user_entry word user = word ++ codes " " ++ user

-- a word, a process and its user on a line
abbrev pub process_line : List ℕ → ProcName × Name → List ℕ
process_line word p = process_entry word p ++ codes "\n"

-- a line for each of these processes
abbrev pub process_lines : List ℕ → List (ProcName × Name) → List ℕ
process_lines word ps = flat_map (process_line word) ps

-- a line for each of these users, with the word and the user
abbrev pub user_lines : List ℕ → List Name → List ℕ
user_lines word users = flat_map (λ (user : Name). user_entry word user ++ codes "\n") users

-- the line of a process, if its name passes the test: the word, the process, its user and a reason
abbrev pub reasoned_line : List ℕ → (ProcName → Bool) → (Named → List ℕ) → Named → List ℕ
reasoned_line word test reason c = if test c.0 then process_entry word (c.0, c.1.user) ++ reason c ++ codes "\n" else []

-- the line of a user that passes the test: the word, the user and a reason
abbrev pub reasoned_user : List ℕ → (Name → Bool) → (Name → List ℕ) → Name → List ℕ
reasoned_user word test reason user = if test user then user_entry word user ++ reason user ++ codes "\n" else []

-- every process may read the class: it is readable or open
abbrev pub is_for_everyone : Class → Bool
is_for_everyone (Readable owner) = true
is_for_everyone Open = true
is_for_everyone class = false

-- every process may read all of the way, and so reaches what is at its end
abbrev pub is_open_way : List Class → Bool
is_open_way way = list_all is_for_everyone way

-- the names of the declared users, in the order of the script
abbrev pub declared_users : Accounts → List Name
declared_users accounts = map (λ (u : User). u.name) accounts.users

module _ (accounts : Accounts) (f : Flat) where
  -- the running processes whose names pass the test, in the order of names, each with its user
  abbrev pub running_where : (ProcName → Bool) → List (ProcName × Name)
  running_where test = map (λ (c : Named). (c.0, c.1.user)) (filter (λ (c : Named). test c.0) (running_in f))

  -- the declared users that pass the test, in the order of the script
  abbrev pub users_where : (Name → Bool) → List Name
  users_where test = filter test (declared_users accounts)

  -- the processes that are trusted with the way
  abbrev pub trusted_with : List Class → List (ProcName × Name)
  trusted_with way = running_where (is_trusted accounts way f)

  -- the processes that are confined by the way
  abbrev pub confined_by : List Class → List (ProcName × Name)
  confined_by way = running_where (is_confined accounts way f)

  -- the users that could log in as readers
  abbrev pub login_readers : List Class → List Name
  login_readers way = users_where (λ user. reads_all accounts way (logged_in user))

  -- ---- the whole text; with the reason why a changer is one, and why a confined process is, if reasons are asked for

  module _ (why : Bool) where
    -- the job that binds a process
    abbrev pub job_reason : List Class → Named → List ℕ
    job_reason way c = if_asked why (by_job (binding_job accounts f way c))

    -- the path by which a process may change what is at this one
    abbrev pub power_reason : Path → Process → List ℕ
    power_reason path p = if_asked why (by_path (power_path accounts f p path))

    -- the lines of the processes that are trusted with the way, confined, and outsiders, and of the users that could log in as readers
    abbrev pub readers_text : List Class → List ℕ
    readers_text way =
        process_lines (codes "trusted") (trusted_with way)
        ++ flat_map (reasoned_line (codes "confined") (is_confined accounts way f) (job_reason way)) (running_in f)
        ++ process_lines (codes "outside") (running_where (is_outsider accounts way f))
        ++ user_lines (codes "login") (login_readers way)

    -- nothing for a directory; for a file `everyone` if every process reaches it, or else the lines of the roles
    abbrev pub roles_text : Path → Node → List ℕ
    roles_text path node =
        if is_dir node then [] else if is_open_way (way_to f path) then codes "everyone\n" else readers_text (way_to f path)

    -- the lines of the processes that may change what is at the path, and of the users that could log in to do so
    abbrev pub changers_text : Path → List ℕ
    changers_text path =
        flat_map (reasoned_line (codes "changer") (is_changer accounts f path) (λ (c : Named). power_reason path c.1)) (running_in f)
        ++ flat_map (reasoned_user (codes "changer-login") (λ user. may_change accounts f (logged_in user) path)
        (λ user. power_reason path (logged_in user))) (declared_users accounts)

    -- `no entry` if nothing is at the path; else its line of the table of rights without processes, and the roles
    abbrev pub found_text : Path → Option Node → List ℕ
    found_text path None = codes "no entry\n"
    found_text path (Some node) = access_line_text (line_of accounts f [] (path, node)) ++ roles_text path node

    -- what is at the path, and the changers: also those who may change that nothing is there
    abbrev pub trust_text : Path → List ℕ
    trust_text path = found_text path (get f.files path) ++ changers_text path
