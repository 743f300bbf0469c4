-- Tables of the rights of users, and what differs between two of them.
use Rattle.std.specs.Prelude.{◌≡◌, ℕ, Bool, false, true, List, ◌++◌, Option, None, Some, position, if◌then◌else◌}
use Rattle.std.specs.List.{filter_map, flat_map}
use Rattle.histar_flat.specs.Accounts.{has}
use Rattle.histar_flat.specs.Words.{Name, Path}
use Rattle.histar_base.specs.Paths.{path_cmp, same}
use Rattle.histar_rights.specs.declared.rights.Rights.{Rights}
use Rattle.histar_diff.specs.declared.table.TableLine.{TableLine}
use Rattle.histar_diff.specs.declared.user_differences.UserDifference.{UserDifference}
use Rattle.histar_diff.specs.declared.users.LoneUser.{LoneUser}
use Rattle.histar_diff.specs.declared.users.SharedUser.{SharedUser}
use Rattle.histar_diff.specs.declared.users.UsersTable.{UsersTable}
use Rattle.histar_diff.specs.Joining.{Joined, joined, new_of, old_of}
use Rattle.histar_diff.specs.Sides.{same_letters}
use Rattle.histar_diff.specs.Tables.{by_path, letters_at}

-- ---- users

-- the user, if the others lack it
abbrev pub lone_user : Bool → List Name → Name → Option LoneUser
lone_user is_new others u = if has others u then None else Some (record { user = u; is_new = is_new })

-- those of these users that the others lack
abbrev pub lone_among : Bool → List Name → List Name → List LoneUser
lone_among is_new users others = filter_map (lone_user is_new others) users

-- the users of the old list that the new one lacks, and then those of the new list that the old one lacks
abbrev pub lone_of_both : List Name → List Name → List LoneUser
lone_of_both old new = lone_among false old new ++ lone_among true new old

-- a user with these places in two tables, if it has both
abbrev pub shared_at : Name → Option ℕ → Option ℕ → Option SharedUser
shared_at u (Some old) (Some new) = Some (record { user = u; old = old; new = new })
shared_at u _ _ = None

-- a user with its places in two tables, if both have it
abbrev pub shared_user : List Name → List Name → Name → Option SharedUser
shared_user old new u = shared_at u (position (same u) old) (position (same u) new)

-- the users of both, in the order of the old table
abbrev pub shared_of_both : List Name → List Name → List SharedUser
shared_of_both old new = filter_map (shared_user old new) old

-- ---- rights

-- the difference at a path of a user with these letters in two tables or states, if they differ
abbrev pub user_difference : Path → Name → Option Rights → Option Rights → Option UserDifference
user_difference q u before after =
    if same_letters before after then None else Some (record { path = q; user = u; before = before; after = after })

-- the difference of a user at a path with these rights in two tables
abbrev pub shared_difference : Path → Option (List Rights) → Option (List Rights) → SharedUser → Option UserDifference
shared_difference q old new u = user_difference q u.user (letters_at old (Some u.old)) (letters_at new (Some u.new))

-- the differences of these users at a path
abbrev pub shared_differences : List SharedUser → Path → Option (List Rights) → Option (List Rights) → List UserDifference
shared_differences users q old new = filter_map (shared_difference q old new) users

-- the differences at a path of two tables
abbrev pub joined_user_differences : List SharedUser → Path × Joined (List Rights) (List Rights) → List UserDifference
joined_user_differences users e = shared_differences users e.0 (old_of e.1) (new_of e.1)

-- the differences of these users at the paths of two lists of lines
abbrev pub shared_lines_differences : List SharedUser → List TableLine → List TableLine → List UserDifference
shared_lines_differences users old new = flat_map (joined_user_differences users) (joined path_cmp (by_path old) (by_path new))

-- these are the users that one of two tables lacks, and the differences of the users of both, path by path
pub record AreUserDifferences (old new : UsersTable) (lone : List LoneUser) (ds : List UserDifference) : Type 0 where
  pub lone_are : lone ≡ lone_of_both old.users.items new.users.items
  pub are : ds ≡ shared_lines_differences (shared_of_both old.users.items new.users.items) old.lines.items new.lines.items
