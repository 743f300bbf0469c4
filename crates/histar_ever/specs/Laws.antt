-- What the letters, the paths and the processes of a run mean, by the calls of its script.
use Rattle.std.specs.Prelude.{◌≡◌, ◌↔◌, Bool, true, is_some, List, ◌++◌}
use Rattle.std.specs.List.{Contains}
use Rattle.std.specs.List.Sorted.{IsStrictlySortedBy}
use Rattle.histar_flat.specs.declared.calls.CallLine.{CallLine}
use Rattle.histar_flat.specs.Words.{Name, Path, ProcName}
use Rattle.histar_base.specs.Paths.{path_cmp}
use Rattle.histar_flat.specs.Accounts.{Accounts}
use Rattle.histar_flat.specs.FlatState.{Flat, is_there}
use Rattle.histar_flat.specs.FlatCalls.{running}
use Rattle.histar_flat.specs.Meaning.{boot, flat_end}
use Rattle.histar_rights.specs.declared.rights.Rights.{Rights}
use Rattle.histar_rights.specs.Running.{process_cmp}
use Rattle.histar_diff.specs.Shown.{rights_of}
use Rattle.histar_cells.specs.ByUser.{user_rights_at}
use Rattle.histar_ever.specs.Ever.{ever_paths, ever_processes, ever_rights}
use Rattle.histar_ever.specs.EverUsers.{ever_user_rights}
use Rattle.histar_ever.specs.States.{states_from}

-- in a run from this state the test holds of the flat state before some of these calls, or after the last
pub record HeldOnce (accounts : Accounts) (f : Flat) (calls : List CallLine) (test : Flat → Bool) : Type 0 where
  pub front : List CallLine
  pub rest : List CallLine
  pub parts : calls ≡ front ++ rest
  pub held : test (flat_end accounts f front) ≡ true

-- each letter is there exactly if it was one of these rights before some of the calls, or after the last
pub record WereLettersOf (accounts : Accounts) (calls : List CallLine) (rights : Flat → Rights) (letters : Rights) : Type 0 where
  pub stat : (letters.stat ≡ true) ↔ HeldOnce accounts (boot accounts) calls (λ f. (rights f).stat)
  pub read : (letters.read ≡ true) ↔ HeldOnce accounts (boot accounts) calls (λ f. (rights f).read)
  pub write : (letters.write ≡ true) ↔ HeldOnce accounts (boot accounts) calls (λ f. (rights f).write)
  pub remove : (letters.remove ≡ true) ↔ HeldOnce accounts (boot accounts) calls (λ f. (rights f).remove)

-- the letters of a process at a path are those that it had there before some call, or after the last
abbrev pub LettersWereThere : Type 0
LettersWereThere =
    (accounts : Accounts) (calls : List CallLine) (q : Path) (p : ProcName)
    → WereLettersOf accounts calls (λ f. rights_of accounts f q p) (ever_rights accounts (states_from accounts (boot accounts) calls) q p)

-- the letters of a user at a path are those that it had there before some call, or after the last
abbrev pub LettersOfUsersWereThere : Type 0
LettersOfUsersWereThere =
    (accounts : Accounts) (calls : List CallLine) (q : Path) (user : Name)
    → WereLettersOf accounts calls (λ f. user_rights_at accounts f q user)
    (ever_user_rights accounts (states_from accounts (boot accounts) calls) q user)

-- the paths rise, each once, and a path is among them exactly if it was there before some call, or after the last
pub record PathsWereThere : Type 0 where
  pub rise : (accounts : Accounts) (calls : List CallLine)
      → IsStrictlySortedBy path_cmp (ever_paths (states_from accounts (boot accounts) calls))
  pub each : (accounts : Accounts) (calls : List CallLine) (q : Path)
      → Contains (ever_paths (states_from accounts (boot accounts) calls)) q ↔ HeldOnce accounts (boot accounts) calls (λ f. is_there f q)

-- the processes rise, each once, and a process is among them exactly if it ran before some call, or after the last
pub record ProcessesRan : Type 0 where
  pub rise : (accounts : Accounts) (calls : List CallLine)
      → IsStrictlySortedBy process_cmp (ever_processes (states_from accounts (boot accounts) calls))
  pub each : (accounts : Accounts) (calls : List CallLine) (p : ProcName)
      → Contains (ever_processes (states_from accounts (boot accounts) calls)) p
      ↔ HeldOnce accounts (boot accounts) calls (λ f. is_some (running f p))
