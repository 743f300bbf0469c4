-- The rights of a user at an entry of a directory, by the class of the entry.
use Rattle.std.specs.Prelude.{ℕ, Bool, true, false, ◌&&◌, List, [], ◌∷◌}
use Rattle.histar_base.specs.Paths.{same}
use Rattle.histar_flat.specs.Words.{Name}
use Rattle.histar_flat.specs.Accounts.{Accounts, is_member}
use Rattle.histar_layout.specs.declared.class.Class.{Class}
use Rattle.histar_layout.specs.declared.class.Class.TheVariants.{Private, Readable, Open, Scratch, Group}
use Rattle.histar_rights.specs.Rights.{above_root, rights_below}
use Rattle.histar_rights.specs.declared.users.UserRights.{UserRights}

-- the list is empty
abbrev pub is_none : List ℕ → Bool
is_none [] = true
is_none (x ∷ xs) = false

-- a process of this user, in no job and with none, may read what is of a class: what is of a job it may not
abbrev pub class_reads : Accounts → Name → Class → Bool
class_reads users user (Private owner) = same user owner
class_reads users user (Readable owner) = true
class_reads users user Open = true
class_reads users user (Scratch owner jobs) = same user owner && is_none jobs
class_reads users user (Group group) = is_member users user group

-- the same process may write it: what it may read, but a readable file only as its owner
abbrev pub class_writes : Accounts → Name → Class → Bool
class_writes users user (Readable owner) = same user owner
class_writes users user class = class_reads users user class

-- a user with the rights that each process has above `/`
abbrev pub from_above : Name → UserRights
from_above user = record { user = user; rights = above_root }

-- the rights of a user at an entry of this class, by those at its directory
abbrev pub user_below : Accounts → Class → UserRights → UserRights
user_below users class u = record u { rights = rights_below u.rights (class_reads users u.user class) (class_writes users u.user class) }
