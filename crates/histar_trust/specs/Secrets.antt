-- The running processes, and which processes have to be trusted with each file that not everyone may read: the text of a flat state.
use Rattle.std.specs.Prelude.{ℕ, Bool, not, ◌&&◌, List, [], ◌++◌, codes, filter, map, None, if◌then◌else◌}
use Rattle.std.specs.List.{flat_map}
use Rattle.histar_flat.specs.Words.{Name, Path, ProcName}
use Rattle.histar_flat.specs.Accounts.{Accounts}
use Rattle.histar_flat.specs.Classes.{Class}
use Rattle.histar_flat.specs.FlatState.{Flat, Node, is_dir}
use Rattle.histar_flat.specs.Texts.{path_text, process_text}
use Rattle.histar_rights.specs.Running.{Named, running_in}
use Rattle.histar_script.specs.Script.{ScriptModel}
use Rattle.histar_prefix.specs.Prefix.{state_before}
use Rattle.histar_secrecy.specs.Ways.{way_to}
use Rattle.histar_trust.specs.TrustText.{confined_by, is_open_way, login_readers, trusted_with}

-- it is no directory, and not every process reaches it
abbrev pub is_secret : Bool → List Class → Bool
is_secret is_directory way = not is_directory && not (is_open_way way)

-- the entry is a file that not every process reaches
abbrev pub is_secret_file : Flat → Path × Node → Bool
is_secret_file f e = is_secret (is_dir e.1) (way_to f e.0)

-- the paths of these files, in their order
abbrev pub secret_paths : Flat → List Path
secret_paths f = map (λ (e : Path × Node). e.0) (filter (is_secret_file f) f.files.entries)

-- a process after a space, a word and a colon
abbrev pub process_mark : List ℕ → ProcName × Name → List ℕ
process_mark word p = codes " " ++ word ++ codes ":" ++ process_text p.0

-- a user after a space, a word and a colon
abbrev pub user_mark : List ℕ → Name → List ℕ
user_mark word user = codes " " ++ word ++ codes ":" ++ user

-- a process after a space, and its user after a colon
abbrev pub runner_mark : ProcName → Name → List ℕ
runner_mark process user = codes " " ++ process_text process ++ codes ":" ++ user

-- a running process, and its user
abbrev pub running_mark : Named → List ℕ
running_mark c = runner_mark c.0 c.1.user

-- the word `running`, and then each running process, in the order of names, with its user
abbrev pub runners_line : Flat → List ℕ
runners_line f = codes "running" ++ flat_map running_mark (running_in f) ++ codes "\n"

module _ (accounts : Accounts) (f : Flat) where
  -- the processes that are trusted with the way, those that are confined, and the users that could log in as readers, as `trust` has them
  abbrev pub members_text : List Class → List ℕ
  members_text way =
      flat_map (process_mark (codes "trusted")) (trusted_with accounts f way)
      ++ flat_map (process_mark (codes "confined")) (confined_by accounts f way)
      ++ flat_map (user_mark (codes "login")) (login_readers accounts f way)

  -- the path and these members of a file that not every process reaches, and nothing for all else
  abbrev pub secret_text : Path × Node → List ℕ
  secret_text e = if is_secret_file f e then path_text e.0 ++ members_text (way_to f e.0) ++ codes "\n" else []

  -- the line of the processes, and then these lines, in the order of paths
  abbrev pub secrets_text : List ℕ
  secrets_text = runners_line f ++ flat_map secret_text f.files.entries

-- the text of the flat state after all calls of a script
abbrev pub secrets_after : ScriptModel → List ℕ
secrets_after script = secrets_text script.accounts (state_before None script)
