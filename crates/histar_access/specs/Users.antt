-- The table of rights by users, computed from the classes of files and directories.
use Rattle.std.specs.Prelude.{◌≡◌, ℕ, List, [], ◌∷◌, ◌++◌, length, map, take}
use Rattle.histar_flat.specs.declared.calls.User.{User}
use Rattle.histar_flat.specs.Accounts.{Accounts}
use Rattle.histar_flat.specs.Classes.{nobody}
use Rattle.histar_flat.specs.FlatState.{Flat}
use Rattle.histar_flat.specs.Words.{Name}
use Rattle.histar_layout.specs.declared.class.Class.{Class}
use Rattle.histar_diff.specs.declared.users.UsersTable.{UsersTable}
use Rattle.histar_diff.specs.UserChanges.{ShowsUsers}
use Rattle.histar_rights.specs.Running.{HaveShownNames}
use Rattle.histar_rights.specs.declared.rights.Rights.{Rights}
use Rattle.histar_rights.specs.declared.users.UserRights.{UserRights}
use Rattle.histar_rights.specs.Users.{UsersLine, users_table, users_text}
use Rattle.histar_readout.specs.declared.tree.TreeNode.{TreeNode}
use Rattle.histar_readout.specs.TreeLines.{node_stat}
use Rattle.histar_shell.specs.Machine.{MachineModel}
use Rattle.histar_shell.specs.Meaning.{Shows}
use Rattle.histar_cells.specs.ByClass.{from_above, user_below}
use Rattle.histar_access.specs.Rows.{last_or}

-- nobody and each user of these, with the rights that each process has above `/`
abbrev pub starting : Accounts → List UserRights
starting users = from_above nobody ∷ map (λ (u : User). from_above u.name) users.users

-- the rights of several users at an entry of this class, by those at its directory
abbrev pub users_below : Accounts → Class → List UserRights → List UserRights
users_below users class above = map (user_below users class) above

-- what `stat` shows of a file or a directory, and the rights there
abbrev pub users_line_at : TreeNode → List UserRights → UsersLine
users_line_at node row = record { path = node.path; stat = node_stat node; users = row }

-- The lines of files and directories, each after that of its directory, computed from the rights on the way to the node before: those at
-- the directories above the node are kept.
abbrev pub users_from : Accounts → List UserRights → List (List UserRights) → List TreeNode → List UsersLine
users_from users start way [] = []
users_from users start way (node ∷ tree) =
    let above = take (length node.path) way in
    let row = users_below users node.class (last_or start above) in
    users_line_at node row ∷ users_from users start (above ++ row ∷ []) tree

-- the user of a cell
abbrev pub name_of : UserRights → Name
name_of u = u.user

-- the rights of a cell
abbrev pub rights_held : UserRights → Rights
rights_held u = u.rights

-- For every flat state that the machine represents, the table shows the rights of its users.
abbrev pub ShowsUsersTable : MachineModel → UsersTable → Type 0
ShowsUsersTable m t = (accounts : Accounts) (f : Flat) → Shows accounts m f → HaveShownNames f → ShowsUsers accounts f t

-- for every flat state that the machine represents, this is the text of its table by users
abbrev pub IsUsersText : MachineModel → List ℕ → Type 0
IsUsersText m text = (accounts : Accounts) (f : Flat) → Shows accounts m f → HaveShownNames f → text ≡ users_text (users_table accounts f)
