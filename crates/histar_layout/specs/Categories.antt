-- The categories of users, the user of a thread, and the labels of files.
use Rattle.std.specs.Prelude.{◌≡◌, ℕ, zero, suc, ◌+◌, ◌*◌, ◌<◌, ◌≤◌, Bool, true, false, List, [], ◌∷◌, length, map, None, Some, if◌then◌else◌}
use Rattle.histar_flat.specs.declared.calls.Mode.{Mode}
use Rattle.histar_flat.specs.declared.calls.Mode.TheVariants.{Private, Readable, Open, Group}
use Rattle.histar_flat.specs.Words.{Name}
use Rattle.histar_flat.specs.Accounts.{Group as DeclaredGroup, Accounts, group_number, numbers_with}
use Rattle.histar_level.specs.Level.{is_star}
use Rattle.histar_level.specs.Levels.{Levels, level_of}
use Rattle.histar_level.specs.declared.level.Level.TheVariants.{L1}
use Rattle.histar_label.specs.Levels.{constant}
use Rattle.histar_layout.specs.Jobs.{is_empty, jobs_in}
use Rattle.histar_layout.specs.Labelling.{guarded_by, written_by, secret_of}

-- the first category of a user; boot makes two for nobody, who is number 0, two for each user in turn, and then two for each group
abbrev pub read_category : ℕ → ℕ
read_category user = 2 + 2 * user

-- the second category of a user
abbrev pub write_category : ℕ → ℕ
write_category user = 3 + 2 * user

-- the owner number of group k, where there are this many users: groups are numbered on after the users
abbrev pub group_owner : ℕ → ℕ → ℕ
group_owner users k = users + k

-- the owner number of the group of this name; nobody's, where there is none
abbrev pub owner_of_group : Accounts → Name → ℕ
owner_of_group accounts group = elim (group_number accounts group) [ None ↦ 0 | Some k ↦ group_owner (length accounts.users) k ]

-- the owner numbers whose categories the user i of this name owns, with this many users and these groups: its own, and those of the
-- groups that it is a member of
abbrev pub owners_among : ℕ → List DeclaredGroup → ℕ → Name → List ℕ
owners_among users groups i name = i ∷ map (group_owner users) (numbers_with 1 groups name)

-- the same, with the declared users and groups
abbrev pub owners_of : Accounts → ℕ → Name → List ℕ
owners_of accounts i name = owners_among (length accounts.users) accounts.groups i name

-- a label owns the read category of a user
abbrev pub owns : Levels → ℕ → Bool
owns own user = is_star (level_of own (read_category user))

-- The user of a thread of this label, among this many: the first whose read category the label owns, or nobody, who is 0.
pub record IsUserOf (own : Levels) (users user : ℕ) : Type 0 where
  pub owner : 0 < user → owns own user ≡ true
  pub first : (other : ℕ) → 0 < other → other < user → owns own other ≡ false
  pub nobody : user ≡ 0 → (other : ℕ) → 0 < other → other ≤ users → owns own other ≡ false
  pub known : user ≤ users

-- The label of a file that a user makes: everyone may read a readable one, and its owner alone a private one, and its owner alone writes
-- both; everyone may read and write an open one, and the members of a group a group's. A file for a group that is not declared has nobody's
-- categories.
abbrev pub file_label : Accounts → Mode → ℕ → Levels
file_label accounts Readable user = written_by (write_category user)
file_label accounts Private user = secret_of (read_category user) (write_category user)
file_label accounts Open user = constant L1
file_label accounts (Group name) user = secret_of (read_category (owner_of_group accounts name)) (write_category (owner_of_group accounts name))

-- the first of n users from k on whose read category the label owns, or nobody
abbrev pub owner_from : Levels → ℕ → ℕ → ℕ
owner_from own k zero = 0
owner_from own k (suc n) = if owns own k then k else owner_from own (suc k) n

-- the user of a thread of this label, among this many
unfoldable pub user_of : Levels → ℕ → ℕ
user_of own users = owner_from own 1 users

-- the label of an object that a user makes in jobs with these categories: the user alone reads it, and only in these jobs or holding them
abbrev pub scratch_label : ℕ → List ℕ → Levels
scratch_label user jobs = guarded_by (read_category user ∷ jobs) []

-- the label of an object that a thread of this label makes: its user's in this mode, or in jobs the one for these jobs
abbrev pub label_made : Accounts → Levels → Mode → Levels
label_made accounts own mode =
    if is_empty (jobs_in own) then file_label accounts mode (user_of own (length accounts.users))
    else scratch_label (user_of own (length accounts.users)) (jobs_in own)
