-- What was gathered of the tables by users of several states.
use Rattle.std.specs.Prelude.{◌≡◌, ℕ, true, List, ◌∷◌, ◌++◌, codes, unwrap_or, if◌then◌else◌}
use Rattle.std.specs.List.{flat_map, list_any}
use Rattle.std.specs.declared.cmp.Ordering.{Ordering}
use Rattle.std.specs.Ordering.{eq_by_cmp, nat_cmp, ordering_then}
use Rattle.std.specs.Cmp.Lexicographic.{slice_cmp}
use Rattle.std.specs.BTreeMap.{BTreeMap, get}
use Rattle.std.specs.BTreeSet.{contains}
use Rattle.histar_flat.specs.Words.{Name, Path}
use Rattle.histar_base.specs.Paths.{path_cmp}
use Rattle.histar_flat.specs.Accounts.{Accounts}
use Rattle.histar_flat.specs.FlatState.{Flat}
use Rattle.histar_flat.specs.Texts.{path_text}
use Rattle.histar_rights.specs.declared.rights.Rights.{Rights}
use Rattle.histar_rights.specs.Users.{somebody, user_text}
use Rattle.histar_diff.specs.declared.table.TableLine.{TableLine}
use Rattle.histar_diff.specs.declared.users.UsersTable.{UsersTable}
use Rattle.histar_diff.specs.Tables.{no_rights}
use Rattle.histar_diff.specs.UserChanges.{is_user}
use Rattle.histar_ever.specs.declared.by_users.EverUsers.{EverUsers}
use Rattle.histar_ever.specs.Ever.{any_rights, either, paths_in}
use Rattle.histar_ever.specs.EverUsers.{ever_user_rights}
use Rattle.histar_ever.specs.Gathering.{AddsPaths, AreKeys}

-- a path and a user
abbrev pub Place : Type 0
Place = Path × Name

-- places are ordered by paths, and then by the names of users
abbrev pub place_cmp : Place → Place → Ordering
place_cmp a b = ordering_then (path_cmp a.0 b.0) (slice_cmp nat_cmp a.1 b.1)

-- letters by paths and users
abbrev pub UserLetters : Type 0
UserLetters = BTreeMap Place Rights

-- the letters of a path and a user; none if they are not there
abbrev pub user_letters_at : UserLetters → Path → Name → Rights
user_letters_at letters q user = unwrap_or (get place_cmp letters (q, user)) no_rights

-- the rights, if they are of this path and this user
abbrev pub user_rights_if : Place → Rights → Path → Name → Rights
user_rights_if place rights q user = if eq_by_cmp place_cmp place (q, user) then rights else no_rights

-- the letters of a path and a user on a line of a table, of these users and their rights
abbrev pub user_row_letters : Path → List Name → List Rights → Path → Name → Rights
user_row_letters path (u ∷ us) (x ∷ xs) q user = either (user_rights_if (path, u) x q user) (user_row_letters path us xs q user)
user_row_letters path _ _ q user = no_rights

-- the letters of a path and a user on a line of a table of these users
abbrev pub user_line_letters : List Name → Path → Name → TableLine → Rights
user_line_letters us q user l = user_row_letters l.path us l.rights.items q user

-- the rights at this place were added to what was gathered
abbrev pub AddsUserRights : Place → Rights → UserLetters → UserLetters → Type 0
AddsUserRights place rights old new =
    (q : Path) (user : Name) → user_letters_at new q user ≡ either (user_letters_at old q user) (user_rights_if place rights q user)

-- the rights of these users at a path were added
abbrev pub AddsUserRow : Path → List Name → List Rights → UserLetters → UserLetters → Type 0
AddsUserRow path us xs old new =
    (q : Path) (user : Name) → user_letters_at new q user ≡ either (user_letters_at old q user) (user_row_letters path us xs q user)

-- the rights of these users on lines of a table were added
abbrev pub AddsUserLines : List Name → List TableLine → UserLetters → UserLetters → Type 0
AddsUserLines us ls old new =
    (q : Path) (user : Name)
    → user_letters_at new q user ≡ either (user_letters_at old q user) (any_rights (user_line_letters us q user) ls)

-- a table by users was added
pub record AddsUsersTable (t : UsersTable) (old new : EverUsers) : Type 0 where
  pub users : new.users ≡ old.users
  pub paths : AddsPaths t.lines.items old.paths new.paths
  pub letters : AddsUserLines t.users.items t.lines.items old.letters new.letters

-- exactly what was there in one of these states was gathered
pub record GathersUsers (accounts : Accounts) (fs : List Flat) (e : EverUsers) : Type 0 where
  pub users : e.users.items ≡ somebody accounts
  pub paths : (q : Path) → contains path_cmp e.paths q ≡ list_any (eq_by_cmp path_cmp q) (flat_map paths_in fs)
  pub letters : (q : Path) (user : Name) → is_user accounts user ≡ true
      → user_letters_at e.letters q user ≡ ever_user_rights accounts fs q user

-- the cell of a user at a path, by what was gathered
abbrev pub gathered_user : UserLetters → Path → Name → List ℕ
gathered_user letters q user = user_text (record { user = user; rights = user_letters_at letters q user })

-- the line of a path, by what was gathered, for these users
abbrev pub gathered_users_line : UserLetters → List Name → Path → List ℕ
gathered_users_line letters us q = path_text q ++ flat_map (gathered_user letters q) us ++ codes "\n"

-- the text has the lines of what was gathered
pub record IsGatheredUsersText (e : EverUsers) (text : List ℕ) : Type 0 where
  pub paths : List Path
  pub are_paths : AreKeys e.paths.keys path_cmp paths
  pub is : text ≡ flat_map (gathered_users_line e.letters e.users.items) paths
