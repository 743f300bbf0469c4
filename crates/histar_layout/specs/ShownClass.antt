-- The class that a few levels of a label show.
use Rattle.std.specs.Prelude.{ℕ, ◌+◌, Bool, true, false, ◌&&◌, List, [], ◌∷◌, Option, None, Some, if◌then◌else◌}
use Rattle.histar_flat.specs.Words.{Name}
use Rattle.histar_flat.specs.Accounts.{Group, Accounts}
use Rattle.histar_flat.specs.declared.calls.User.{User}
use Rattle.histar_flat.specs.declared.replies.FileMode.{FileMode}
use Rattle.histar_flat.specs.declared.replies.FileMode.TheVariants as modes
use Rattle.histar_flat.specs.declared.replies.Stat.{Stat}
use Rattle.histar_level.specs.declared.level.Level.{Level}
use Rattle.histar_level.specs.declared.level.Level.TheVariants.{L0, L1, L3}
use Rattle.histar_level.specs.Levels.{Levels, level_of, default_of, exceptions_of}
use Rattle.histar_layout.specs.Categories.{read_category, write_category}
use Rattle.histar_layout.specs.declared.shown.ShownClass.{ShownClass}
use Rattle.histar_layout.specs.declared.shown.ShownClass.TheVariants as classes
use Rattle.histar_layout.specs.declared.shown.ShownClass.TheVariants.{Private, Readable, Open, Scratch}

-- the class that the levels at a user's two categories show
abbrev pub class_at : Name → Level → Level → Option ShownClass
class_at owner L3 L0 = Some (Private owner)
class_at owner L1 L0 = Some (Readable owner)
class_at owner L3 L1 = Some (Scratch owner)
class_at owner read write = None

-- the class that the levels at a group's two categories show
abbrev pub group_class_at : Name → Level → Level → Option ShownClass
group_class_at group L3 L0 = Some (classes.Group group)
group_class_at group read write = None

-- the level that labels of files have at the categories that they don't name
abbrev pub is_plain_level : Level → Bool
is_plain_level L1 = true
is_plain_level level = false

-- the label names neither category of the user or the group of this number
abbrev pub is_unnamed : Levels → ℕ → Bool
is_unnamed label user = is_plain_level (level_of label (read_category user)) && is_plain_level (level_of label (write_category user))

-- the label is `{1}`
abbrev pub is_all_plain : Levels → Bool
is_all_plain label = elim (exceptions_of label) [ [] ↦ is_plain_level (default_of label) | e ∷ es ↦ false ]

-- The class that a label shows by the groups from number k on: that of the first whose categories it names. Where it names none of them the
-- class is open if the label is `{1}`, and otherwise there is none.
abbrev pub group_class_from : Levels → ℕ → List Group → Option ShownClass
group_class_from label k [] = if is_all_plain label then Some Open else None
group_class_from label k (group ∷ groups) =
    if is_unnamed label k then group_class_from label (k + 1) groups
    else group_class_at group.name (level_of label (read_category k)) (level_of label (write_category k))

-- the class that a label shows by the users from number k on, and by these groups where it names none of the users
abbrev pub class_from : Levels → ℕ → List Group → List User → Option ShownClass
class_from label k groups [] = group_class_from label k groups
class_from label k groups (user ∷ users) =
    if is_unnamed label k then class_from label (k + 1) groups users
    else class_at user.name (level_of label (read_category k)) (level_of label (write_category k))

-- the class that a label shows
unfoldable pub class_shown : Accounts → Levels → Option ShownClass
class_shown accounts label = class_from label 1 accounts.groups accounts.users

-- the owner of an object of a class, if it has one
abbrev pub owner_shown : ShownClass → Option Name
owner_shown (Private owner) = Some owner
owner_shown (Readable owner) = Some owner
owner_shown Open = None
owner_shown (Scratch owner) = Some owner
owner_shown (classes.Group group) = None

-- the mode of an object of a class
abbrev pub mode_of : ShownClass → FileMode
mode_of (Private owner) = modes.Private
mode_of (Readable owner) = modes.Readable
mode_of Open = modes.Open
mode_of (Scratch owner) = modes.Scratch
mode_of (classes.Group group) = modes.Group group

-- the answer of `stat` for an object of a class
abbrev pub stat_of : ShownClass → Bool → Stat
stat_of class is_directory = record { is_directory = is_directory; owner = owner_shown class; mode = mode_of class }
