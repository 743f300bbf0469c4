-- What a script contains: accounts and calls.
use Rattle.std.specs.Prelude.{◌≡◌, ◌≢◌, ℕ, ◌<◌, ◌≤◌, Bool, true, List, [], length, IsTrue, All, AllPairs}
use Rattle.std.specs.List.{Any}
use Rattle.histar_flat.specs.declared.calls.User.{User}
use Rattle.histar_flat.specs.declared.calls.UnixCall.{UnixCall}
use Rattle.histar_flat.specs.declared.calls.UnixCall.TheVariants.{Create, Mkdir}
use Rattle.histar_flat.specs.declared.calls.CallLine.{CallLine}
use Rattle.histar_flat.specs.Words.{Name, ProcName, is_user_name}
use Rattle.histar_flat.specs.Meaning.{without}
use Rattle.histar_flat.specs.Accounts.{Accounts, Group, most_users, most_groups, most_members, no_accounts, is_declared_mode}

-- the accounts, and the calls with the numbers of their lines
pub record ScriptModel : Type 0 where
  pub accounts : Accounts
  pub calls : List CallLine

-- the script before the first line
abbrev pub nothing_read : ScriptModel
nothing_read = record { accounts = no_accounts; calls = [] }

-- the script without the calls of a job: of its first process, and of processes below that
abbrev pub without_job : ProcName → ScriptModel → ScriptModel
without_job job script = record { accounts = script.accounts; calls = without job script.calls }

-- the users of a script: 1 to 16, each with a name that a user may have and that no other one has
pub record IsUserList (users : List User) : Type 0 where
  pub some : 0 < length users
  pub most : length users ≤ most_users
  pub named : All (λ u. IsTrue (is_user_name u.name)) users
  pub distinct : AllPairs (λ u v. u.name ≢ v.name) users

-- one of the users has the name
abbrev pub IsUserOf : List User → Name → Type 0
IsUserOf users name = Any (λ u. u.name ≡ name) users

-- the members of a group: 1 to 16 of the users, none of them twice
pub record IsMembership (users : List User) (group : Group) : Type 0 where
  pub some : 0 < length group.members
  pub few : length group.members ≤ most_members
  pub declared : All (IsUserOf users) group.members
  pub distinct : AllPairs (λ a b. a ≢ b) group.members

-- the groups of a script: at most 8, each with users as its members and a valid name that no user and no other group has
pub record AreGroups (accounts : Accounts) : Type 0 where
  pub few : length accounts.groups ≤ most_groups
  pub named : All (λ g. IsTrue (is_user_name g.name)) accounts.groups
  pub no_users : All (λ g. All (λ u. u.name ≢ g.name) accounts.users) accounts.groups
  pub distinct : AllPairs (λ g h. g.name ≢ h.name) accounts.groups
  pub members : All (IsMembership accounts.users) accounts.groups

-- the users and the groups are those of a script
pub record IsDeclared (accounts : Accounts) : Type 0 where
  pub users : IsUserList accounts.users
  pub groups : AreGroups accounts

-- the group of the mode that a call names is declared; other modes and calls always pass
abbrev pub is_declared_call : Accounts → UnixCall → Bool
is_declared_call accounts (Create path mode) = is_declared_mode accounts mode
is_declared_call accounts (Mkdir path mode) = is_declared_mode accounts mode
is_declared_call accounts call = true

-- the calls of a script with this many lines: their numbers rise, and are numbers of lines
pub record IsNumbered (lines : ℕ) (calls : List CallLine) : Type 0 where
  pub rising : AllPairs (λ c d. c.line < d.line) calls
  pub within : All (λ c. (0 < c.line) × (c.line ≤ lines)) calls
