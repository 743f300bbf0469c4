-- Users, as programs know them: the place of a name, the objects that boot made for a user, and the labels of a process as a user.
use Rattle.std.specs.Prelude.{ℕ, ◌+◌, ◌*◌, true, List, [], ◌∷◌, Option, position}
use Rattle.std.specs.Str.{bytes_eq}
use Rattle.histar_flat.specs.declared.calls.User.{User}
use Rattle.histar_flat.specs.Words.{Name}
use Rattle.histar_level.specs.Levels.{Levels}
use Rattle.histar_layout.specs.Labelling.{owner_label, cleared_at}
use Rattle.histar_programs.specs.declared.caller.Caller.{Caller}
use Rattle.histar_programs.specs.Kin.{categories_of}

-- the place of the user with this name
abbrev pub place_of : List User → Name → Option ℕ
place_of users name = position (λ u. bytes_eq u.name name) users

-- the segment with the password of user i, and the user's gate, which boot made
abbrev pub password_of : ℕ → ℕ
password_of i = 1 + 2 * i

abbrev pub gate_of : ℕ → ℕ
gate_of i = 2 + 2 * i

-- the categories that a process owns as a user with the categories of these users and groups: its own two, and those
abbrev pub owned_as_user : Caller → List ℕ → List ℕ
owned_as_user caller owners = caller.read ∷ caller.write ∷ categories_of owners true

-- the label of the process's thread as that user: it owns these, and is in no job
abbrev pub user_label : Caller → List ℕ → Levels
user_label caller owners = owner_label (owned_as_user caller owners) []

-- the clearance of the process's thread as that user
abbrev pub user_clearance : Caller → List ℕ → Levels
user_clearance caller owners = cleared_at (owned_as_user caller owners)
