-- What the changes of users mean.
use Rattle.std.specs.Prelude.{◌≡◌, ◌≢◌, ◌↔◌, ℕ, true, false, T, AllPairs, List, [], map, Some}
use Rattle.std.specs.List.{position_or_len}
use Rattle.std.specs.declared.cmp.Ordering.{Ordering}
use Rattle.std.specs.Ordering.{nat_cmp, ordering_then}
use Rattle.std.specs.FinMap.{is_sorted}
use Rattle.histar_flat.specs.declared.calls.CallLine.{CallLine}
use Rattle.histar_flat.specs.Accounts.{Accounts}
use Rattle.histar_flat.specs.Classes.{Process}
use Rattle.histar_flat.specs.FlatCalls.{running}
use Rattle.histar_flat.specs.FlatState.{Flat}
use Rattle.histar_flat.specs.Meaning.{boot, flat_end}
use Rattle.histar_flat.specs.Words.{Name, Path, ProcName}
use Rattle.histar_base.specs.Paths.{path_cmp, same}
use Rattle.histar_rights.specs.Users.{somebody}
use Rattle.histar_diff.specs.declared.user_differences.UserDifference.{UserDifference}
use Rattle.histar_diff.specs.declared.users.LoneUser.{LoneUser}
use Rattle.histar_diff.specs.declared.users.UsersTable.{UsersTable}
use Rattle.histar_diff.specs.Gains.{GiveNoMore, gives_more, new_users, user_gains}
use Rattle.histar_diff.specs.UserChanges.{AreAnsweredAlike, ShowsUsers, is_gone, is_listed, is_new_user, is_user, lone_users}
use Rattle.histar_diff.specs.UserChanges.{user_changes, user_rights}
use Rattle.histar_diff.specs.UserTables.{AreUserDifferences}

-- ---- tables

-- what differs between two tables that show the rights of users in flat states is what changed for users between the two states
abbrev pub UserDifferencesAreChanges : Type 0
UserDifferencesAreChanges =
    (accounts : Accounts) (f : Flat) (later : Accounts) (g : Flat) (old new : UsersTable) (lone : List LoneUser) (ds : List UserDifference)
    → ShowsUsers accounts f old → ShowsUsers later g new → AreUserDifferences old new lone ds
    → (lone ≡ lone_users accounts later) × (ds ≡ user_changes accounts f later g)

-- ---- what is listed

-- a path and a user are listed exactly if both scripts have the user and its rights there differ
abbrev pub UserChangesAreListed : Type 0
UserChangesAreListed =
    (accounts : Accounts) (f : Flat) (later : Accounts) (g : Flat) (q : Path) (u : Name)
    → (is_listed (user_changes accounts f later g) q u ≡ true)
    ↔ ((is_user accounts u ≡ true) × (is_user later u ≡ true) × (user_rights accounts f q u ≢ user_rights later g q u))

-- a user is listed as gone exactly if the old script alone declares it, and as new exactly if the new one alone does
abbrev pub LoneUsersAreListed : Type 0
LoneUsersAreListed =
    (accounts later : Accounts) (u : Name)
    → ((is_gone (lone_users accounts later) u ≡ true) ↔ ((is_user accounts u ≡ true) × (is_user later u ≡ false)))
    × ((is_new_user (lone_users accounts later) u ≡ true) ↔ ((is_user accounts u ≡ false) × (is_user later u ≡ true)))

-- nobody and the users of a script have names of their own
abbrev pub HaveOwnNames : Accounts → Type 0
HaveOwnNames accounts = AllPairs (λ a b. a ≢ b) (somebody accounts)

-- the place of a user in the order of the script, after nobody
abbrev pub place_in : Accounts → Name → ℕ
place_in accounts u = position_or_len (same u) (somebody accounts)

-- paths and places of users are ordered by paths, and then by places
abbrev pub placed_cmp : Path × ℕ → Path × ℕ → Ordering
placed_cmp a b = ordering_then (path_cmp a.0 b.0) (nat_cmp a.1 b.1)

-- differences with their paths and the places of their users as keys
abbrev pub by_place : Accounts → List UserDifference → List ((Path × ℕ) × UserDifference)
by_place accounts ds = map (λ d. ((d.path, place_in accounts d.user), d)) ds

-- changes are listed by rising paths, and at each path by rising places of users in the old script, so each pair at most once
abbrev pub UserChangesRise : Type 0
UserChangesRise =
    (accounts : Accounts) (f : Flat) (later : Accounts) (g : Flat) → HaveOwnNames accounts
    → T (is_sorted placed_cmp (by_place accounts (user_changes accounts f later g)))

-- both scripts have the same users, and each has the same letters at each path
pub record AreAlikeForUsers (accounts : Accounts) (f : Flat) (later : Accounts) (g : Flat) : Type 0 where
  pub users : (u : Name) → is_user accounts u ≡ is_user later u
  pub rights : (q : Path) (u : Name) → is_user accounts u ≡ true → user_rights accounts f q u ≡ user_rights later g q u

-- nothing is listed exactly if both scripts have the same users, with the same letters at each path
abbrev pub NothingHasChangedForUsers : Type 0
NothingHasChangedForUsers =
    (accounts : Accounts) (f : Flat) (later : Accounts) (g : Flat)
    → ((lone_users accounts later ≡ []) × (user_changes accounts f later g ≡ [])) ↔ AreAlikeForUsers accounts f later g

-- ---- gains

-- a path and a user are a gain exactly if both scripts have the user and the new state gives it a letter that the old one doesn't
abbrev pub UserGainsAreListed : Type 0
UserGainsAreListed =
    (accounts : Accounts) (f : Flat) (later : Accounts) (g : Flat) (q : Path) (u : Name)
    → (is_listed (user_gains (user_changes accounts f later g)) q u ≡ true)
    ↔ ((is_user accounts u ≡ true) × (is_user later u ≡ true)
    × (gives_more (user_rights accounts f q u) (user_rights later g q u) ≡ true))

-- each user of the new script is one of the old script, and each of its letters in the new state is one in the old state
pub record GiveUsersNoMore (accounts : Accounts) (f : Flat) (later : Accounts) (g : Flat) : Type 0 where
  pub users : (u : Name) → is_user later u ≡ true → is_user accounts u ≡ true
  pub rights : (q : Path) (u : Name) → is_user later u ≡ true
      → GiveNoMore (user_rights accounts f q u) (user_rights later g q u)

-- there is no new user and no gain exactly if each user of the new script, and each of its letters, was there
abbrev pub NoUserGainsIsNoMore : Type 0
NoUserGainsIsNoMore =
    (accounts : Accounts) (f : Flat) (later : Accounts) (g : Flat)
    → ((new_users (lone_users accounts later) ≡ []) × (user_gains (user_changes accounts f later g) ≡ []))
    ↔ GiveUsersNoMore accounts f later g

-- ---- answers

-- a process that runs after these calls of a script is one of this user, is in no job and holds none
pub record IsFreeProcessOf (accounts : Accounts) (calls : List CallLine) (u : Name) (me : ProcName) : Type 0 where
  pub process : Process
  pub runs : running (flat_end accounts (boot accounts) calls) me ≡ Some process
  pub user : process.user ≡ u
  pub in_none : process.chain ≡ []
  pub holds_none : process.held ≡ []

-- If nothing has changed for users after the calls of two scripts, a process of a user of both, in no job and holding none, has the same
-- answers at each path after each.
abbrev pub UsersAreAnsweredAlike : Type 0
UsersAreAnsweredAlike =
    (accounts later : Accounts) (calls more : List CallLine)
    → lone_users accounts later ≡ []
    → user_changes accounts (flat_end accounts (boot accounts) calls) later (flat_end later (boot later) more) ≡ []
    → (u : Name) → is_user accounts u ≡ true → (me other : ProcName) → IsFreeProcessOf accounts calls u me
    → IsFreeProcessOf later more u other
    → (q : Path) → AreAnsweredAlike accounts calls me later more other q
