-- What changed for users between two flat states: the users that one script alone declares, and the letters of those of both.
use Rattle.std.specs.Prelude.{◌≡◌, Bool, ◌&&◌, not, List, map, Option, option_map}
use Rattle.std.specs.List.{filter, filter_map, flat_map, list_any}
use Rattle.histar_flat.specs.declared.calls.CallLine.{CallLine}
use Rattle.histar_flat.specs.Accounts.{Accounts, has}
use Rattle.histar_flat.specs.Files.{get}
use Rattle.histar_flat.specs.FlatState.{Flat}
use Rattle.histar_flat.specs.Words.{Name, Path, ProcName}
use Rattle.histar_base.specs.Paths.{path_cmp, same, same_path}
use Rattle.histar_rights.specs.declared.rights.Rights.{Rights}
use Rattle.histar_rights.specs.declared.users.UserRights.{UserRights}
use Rattle.histar_rights.specs.Users.{UsersLine, rights_of_user, somebody, users_table}
use Rattle.histar_diff.specs.declared.user_differences.UserDifference.{UserDifference}
use Rattle.histar_diff.specs.declared.users.LoneUser.{LoneUser}
use Rattle.histar_diff.specs.declared.users.UsersTable.{UsersTable}
use Rattle.histar_diff.specs.Changes.{IsAnsweredBy}
use Rattle.histar_diff.specs.Joining.{joined}
use Rattle.histar_diff.specs.Sides.{letters}
use Rattle.histar_diff.specs.Tables.{by_path}
use Rattle.histar_diff.specs.UserTables.{lone_of_both, user_difference}

-- ---- tables that show a state

-- a path, and the rights of users there
abbrev pub users_rights : UsersLine → Path × List Rights
users_rights l = (l.path, map (λ (u : UserRights). u.rights) l.users)

-- the table has nobody and the users of the script, and the paths and rights that `access --users` prints of the state
pub record ShowsUsers (accounts : Accounts) (f : Flat) (t : UsersTable) : Type 0 where
  pub users : t.users.items ≡ somebody accounts
  pub lines : by_path t.lines.items ≡ map users_rights (users_table accounts f)

-- ---- users

-- nobody, or a user that the script declares
abbrev pub is_user : Accounts → Name → Bool
is_user accounts u = has (somebody accounts) u

-- the users that one of two scripts alone declares: those of the old one, and then those of the new one, each in the order of its script
abbrev pub lone_users : Accounts → Accounts → List LoneUser
lone_users accounts later = lone_of_both (somebody accounts) (somebody later)

-- nobody and the users of both scripts, in the order of the old one
abbrev pub shared_users : Accounts → Accounts → List Name
shared_users accounts later = filter (is_user later) (somebody accounts)

-- ---- letters

-- the rights at a path of a process of this user that is in no job and holds none, if the path is there
abbrev pub user_letters : Accounts → Flat → Path → Name → Option Rights
user_letters accounts f q u = option_map (rights_of_user accounts f u q) (get f.files q)

-- the same, and no right where the path is not there
abbrev pub user_rights : Accounts → Flat → Path → Name → Rights
user_rights accounts f q u = letters (user_letters accounts f q u)

-- the paths of one or of both of two states, as they rise
abbrev pub paths_of_both : Flat → Flat → List Path
paths_of_both f g = map (λ e. e.0) (joined path_cmp f.files.entries g.files.entries)

module _ (accounts : Accounts) (f : Flat) (later : Accounts) (g : Flat) where
  -- the change of a user at a path, if its letters differ
  abbrev pub user_change : Path → Name → Option UserDifference
  user_change q u = user_difference q u (user_letters accounts f q u) (user_letters later g q u)

  -- the changes of the users of both scripts at a path
  abbrev pub user_changes_at : Path → List UserDifference
  user_changes_at q = filter_map (user_change q) (shared_users accounts later)

  -- the changes of the users of both scripts, path by path, and at each path in the order of the old script
  abbrev pub user_changes : List UserDifference
  user_changes = flat_map user_changes_at (paths_of_both f g)

-- ---- what is listed

-- a user is listed as gone
abbrev pub is_gone : List LoneUser → Name → Bool
is_gone lone u = list_any (λ l. not l.is_new && same u l.user) lone

-- a user is listed as new
abbrev pub is_new_user : List LoneUser → Name → Bool
is_new_user lone u = list_any (λ l. l.is_new && same u l.user) lone

-- a path and a user are listed
abbrev pub is_listed : List UserDifference → Path → Name → Bool
is_listed ds q u = list_any (λ d. same_path q d.path && same u d.user) ds

-- ---- answers

-- The same letters are the answers of two processes at a path, each after one of two scripts.
pub record AreAnsweredAlike (accounts : Accounts) (calls : List CallLine) (me : ProcName) (later : Accounts) (more : List CallLine)
    (other : ProcName) (q : Path) : Type 0 where
  pub letters : Rights
  pub before : IsAnsweredBy accounts calls me q letters
  pub after : IsAnsweredBy later more other q letters
