-- The table of rights by users: a line for each path, with the rights of a process of each user that is in no job and holds none.
use Rattle.std.specs.Prelude.{◌≡◌, ℕ, List, [], ◌∷◌, ◌++◌, codes, map, Some}
use Rattle.std.specs.List.{flat_map}
use Rattle.histar_flat.specs.declared.calls.CallLine.{CallLine}
use Rattle.histar_flat.specs.declared.calls.UnixCall.TheVariants.{Login}
use Rattle.histar_flat.specs.declared.calls.User.{User}
use Rattle.histar_flat.specs.declared.replies.Stat.{Stat}
use Rattle.histar_flat.specs.Words.{Name, Password, Path, ProcName}
use Rattle.histar_flat.specs.Accounts.{Accounts}
use Rattle.histar_flat.specs.Classes.{Process, class_mode, class_owner, nobody}
use Rattle.histar_flat.specs.Files.{get}
use Rattle.histar_flat.specs.FlatState.{Flat, Node, is_dir}
use Rattle.histar_flat.specs.FlatCalls.{running}
use Rattle.histar_flat.specs.Meaning.{boot, first_process, flat_end}
use Rattle.histar_flat.specs.Texts.{path_text, stat_text}
use Rattle.histar_rights.specs.declared.rights.Rights.{Rights}
use Rattle.histar_rights.specs.declared.users.UserRights.{UserRights}
use Rattle.histar_rights.specs.Rights.{rights_at, rights_text}
use Rattle.histar_rights.specs.Laws.{IsAnswered, LettersAre}

-- a process of this user that is in no job and holds none
abbrev pub process_of : Name → Process
process_of user = record first_process { user = user }

-- the rights of such a process at a path with this node
abbrev pub rights_of_user : Accounts → Flat → Name → Path → Node → Rights
rights_of_user accounts f user q node = rights_at accounts f [] (process_of user) q node

-- nobody, and then each user in the order of the script
abbrev pub somebody : Accounts → List Name
somebody accounts = nobody ∷ map (λ (u : User). u.name) accounts.users

-- a path, what `stat` shows there, and the rights of users
pub record UsersLine : Type 0 where
  pub path : Path
  pub stat : Stat
  pub users : List UserRights

module _ (accounts : Accounts) (f : Flat) where
  -- the rights of a user at a path
  abbrev pub user_at : Path × Node → Name → UserRights
  user_at e user = record { user = user; rights = rights_of_user accounts f user e.0 e.1 }

  -- a path, what `stat` shows there, and the rights of each user
  abbrev pub users_line : Path × Node → UsersLine
  users_line e = record {
    path = e.0;
    stat = record { is_directory = is_dir e.1; owner = class_owner e.1.class; mode = class_mode e.1.class };
    users = map (user_at e) (somebody accounts);
  }

  -- the table: each path, in the order of paths, with the rights of nobody and of each user, in the order of the script
  abbrev pub users_table : List UsersLine
  users_table = map users_line f.files.entries

-- the text of a user's rights: a space, the user, a colon and the letters of its rights
abbrev pub user_text : UserRights → List ℕ
user_text u = codes " " ++ u.user ++ codes ":" ++ rights_text u.rights

-- the text of a line: the path, its kind, its owner and its mode, the rights of each user, and a line end
abbrev pub users_line_text : UsersLine → List ℕ
users_line_text l = path_text l.path ++ codes " " ++ stat_text l.stat ++ flat_map user_text l.users ++ codes "\n"

-- the text of a table
abbrev pub users_text : List UsersLine → List ℕ
users_text lines = flat_map users_line_text lines

-- After the calls of a script, a letter of a user at a path is there exactly if one more line of any process that runs as this user, is
-- in no job and holds none is answered.
abbrev pub LettersOfUsersAreReplies : Type 0
LettersOfUsersAreReplies =
    (accounts : Accounts) (calls : List CallLine) (me : ProcName) (p : Process) → running (flat_end accounts (boot accounts) calls) me ≡ Some p
    → p.chain ≡ [] → p.held ≡ []
    → (q : Path) (node : Node) → get (flat_end accounts (boot accounts) calls).files q ≡ Some node
    → (number : ℕ) → LettersAre accounts calls me number q node (rights_of_user accounts (flat_end accounts (boot accounts) calls) p.user q node)

-- After the calls of a script, a letter of a user at a path is there exactly if, after a login of this user that is answered, one more line
-- of the same process is answered.
abbrev pub LettersAreThoseAfterLogin : Type 0
LettersAreThoseAfterLogin =
    (accounts : Accounts) (calls : List CallLine) (me : ProcName) (line : ℕ) (user : Name) (password : Password)
    → IsAnswered accounts calls (record { line = line; process = me; call = Login user password })
    → (q : Path) (node : Node) → get (flat_end accounts (boot accounts) calls).files q ≡ Some node
    → (number : ℕ) → LettersAre accounts (calls ++ record { line = line; process = me; call = Login user password } ∷ []) me number q node
    (rights_of_user accounts (flat_end accounts (boot accounts) calls) user q node)
