-- What a script declares: its users and its groups, and the numbers that these have.
use Rattle.std.specs.Prelude.{ℕ, ◌+◌, ◌≤◌, Bool, true, ◌&&◌, cond, List, [], ◌∷◌, ◌++◌, length, Option, None, Some, position, option_map}
use Rattle.std.specs.Prelude.{if◌then◌else◌}
use Rattle.std.specs.List.{list_any}
use Rattle.histar_flat.specs.declared.calls.User.{User}
use Rattle.histar_flat.specs.declared.calls.Mode.{Mode}
use Rattle.histar_flat.specs.declared.calls.Mode.TheVariants as modes
use Rattle.histar_flat.specs.Words.{Name}
use Rattle.histar_base.specs.Paths.{same}

-- the most users of a script
abbrev pub most_users : ℕ
most_users = 16

-- the most groups of a script
abbrev pub most_groups : ℕ
most_groups = 8

-- the most members of a group
abbrev pub most_members : ℕ
most_members = 16

-- a group: its name and the names of its members
pub record Group : Type 0 where
  pub name : Name
  pub members : List Name

-- what a script declares
pub record Accounts : Type 0 where
  pub users : List User
  pub groups : List Group

-- the accounts of a script that declares nothing
abbrev pub no_accounts : Accounts
no_accounts = record { users = []; groups = [] }

-- the accounts with one more user, after the others
abbrev pub with_user : Accounts → User → Accounts
with_user accounts user = record { users = accounts.users ++ user ∷ []; groups = accounts.groups }

-- the accounts with one more group, after the others
abbrev pub with_group : Accounts → Group → Accounts
with_group accounts group = record { users = accounts.users; groups = accounts.groups ++ group ∷ [] }

-- there are no more users and groups than a script may have
pub record IsSmall (accounts : Accounts) : Type 0 where
  pub users : length accounts.users ≤ most_users
  pub groups : length accounts.groups ≤ most_groups

-- the list of names contains this one
abbrev pub has : List (List ℕ) → List ℕ → Bool
has names name = list_any (same name) names

-- the user of this name
abbrev pub user_named : List User → Name → Option User
user_named [] name = None
user_named (u ∷ users) name = cond (same u.name name) (Some u) (user_named users name)

-- the user is a member of the group of this name
abbrev pub is_member : Accounts → Name → Name → Bool
is_member accounts user group = list_any (λ (g : Group). same g.name group && has g.members user) accounts.groups

-- the group of this name is declared
abbrev pub is_group : Accounts → Name → Bool
is_group accounts name = list_any (λ (g : Group). same g.name name) accounts.groups

-- the mode is not a group's, or its group is declared
abbrev pub is_declared_mode : Accounts → Mode → Bool
is_declared_mode accounts (modes.Group group) = is_group accounts group
is_declared_mode accounts mode = true

-- a user's number, from 1 on in the order of the script
abbrev pub user_number : Accounts → Name → Option ℕ
user_number accounts name = option_map (λ place. place + 1) (position (λ (u : User). same u.name name) accounts.users)

-- a group's number, from 1 on in the order of the script
abbrev pub group_number : Accounts → Name → Option ℕ
group_number accounts name = option_map (λ place. place + 1) (position (λ (g : Group). same g.name name) accounts.groups)

-- the numbers of the groups that have this member, where the first group has the number k
abbrev pub numbers_with : ℕ → List Group → Name → List ℕ
numbers_with k [] name = []
numbers_with k (g ∷ groups) name = if has g.members name then k ∷ numbers_with (k + 1) groups name else numbers_with (k + 1) groups name

-- the numbers of a user's groups
abbrev pub groups_of : Accounts → Name → List ℕ
groups_of accounts name = numbers_with 1 accounts.groups name
