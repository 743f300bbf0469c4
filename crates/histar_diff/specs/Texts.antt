-- The text of what differs.
use Rattle.std.specs.Prelude.{ℕ, Bool, List, ◌++◌, codes, Option, None, Some, if◌then◌else◌}
use Rattle.std.specs.List.{flat_map}
use Rattle.histar_base.specs.Paths.{same}
use Rattle.histar_flat.specs.Texts.{path_text, process_text}
use Rattle.histar_flat.specs.Words.{Name}
use Rattle.histar_rights.specs.declared.rights.Rights.{Rights}
use Rattle.histar_rights.specs.Rights.{rights_text}
use Rattle.histar_diff.specs.declared.lone.Lone.{Lone}
use Rattle.histar_diff.specs.declared.differences.Difference.{Difference}

-- `new` or `gone` after a space, and a line end
abbrev pub fate_text : Bool → List ℕ
fate_text is_new = if is_new then codes " new\n" else codes " gone\n"

-- the line of a process that runs on one side only: its name, its user, and `new` or `gone`
abbrev pub lone_text : Lone → List ℕ
lone_text l = codes "process " ++ process_text l.process ++ codes " " ++ l.user ++ fate_text l.is_new

-- a user, or the old one, `>` and the new one if they differ
abbrev pub user_text : Name → Name → List ℕ
user_text old new = if same old new then new else old ++ codes ">" ++ new

-- the letters, or four dots at a path that is not there
abbrev pub letters_text : Option Rights → List ℕ
letters_text None = codes "...."
letters_text (Some rights) = rights_text rights

-- the letters before and after, each after a space, and a line end
abbrev pub change_text : Option Rights → Option Rights → List ℕ
change_text before after = codes " " ++ letters_text before ++ codes " " ++ letters_text after ++ codes "\n"

-- a path, a process, its user or both users, and its letters before and after
abbrev pub difference_text : Difference → List ℕ
difference_text d =
    path_text d.path ++ codes " " ++ process_text d.process ++ codes " " ++ user_text d.old_user d.user ++ change_text d.before d.after

-- the lines of lone processes, and then those of differences
abbrev pub differences_text : List Lone → List Difference → List ℕ
differences_text lone ds = flat_map lone_text lone ++ flat_map difference_text ds
