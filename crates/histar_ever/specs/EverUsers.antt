-- Which rights each user could ever have at each path, in one or another of several flat states.
use Rattle.std.specs.Prelude.{ℕ, List, ◌++◌, codes}
use Rattle.std.specs.List.{flat_map}
use Rattle.histar_flat.specs.Words.{Name, Path}
use Rattle.histar_flat.specs.Accounts.{Accounts}
use Rattle.histar_flat.specs.FlatState.{Flat}
use Rattle.histar_flat.specs.Texts.{path_text}
use Rattle.histar_rights.specs.declared.rights.Rights.{Rights}
use Rattle.histar_rights.specs.declared.users.UserRights.{UserRights}
use Rattle.histar_rights.specs.Users.{somebody, user_text}
use Rattle.histar_cells.specs.ByUser.{user_rights_at}
use Rattle.histar_ever.specs.Ever.{any_rights, ever_paths}

-- the letters that a user had at a path in one of these states
abbrev pub ever_user_rights : Accounts → List Flat → Path → Name → Rights
ever_user_rights accounts fs q user = any_rights (λ (f : Flat). user_rights_at accounts f q user) fs

-- a user, with the letters that it had at a path in one of these states
abbrev pub ever_user : Accounts → List Flat → Path → Name → UserRights
ever_user accounts fs q user = record { user = user; rights = ever_user_rights accounts fs q user }

-- the line of a path: the path, the letters of nobody and of each user in the order of the script, and a line end
abbrev pub ever_users_line : Accounts → List Flat → Path → List ℕ
ever_users_line accounts fs q =
    path_text q ++ flat_map (λ (user : Name). user_text (ever_user accounts fs q user)) (somebody accounts) ++ codes "\n"

-- the text of all: a line for each path that was there, by rising paths
abbrev pub ever_users_text : Accounts → List Flat → List ℕ
ever_users_text accounts fs = flat_map (ever_users_line accounts fs) (ever_paths fs)
