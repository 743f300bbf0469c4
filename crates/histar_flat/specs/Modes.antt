-- The modes that lines of a script name, and how they are read.
use Rattle.std.specs.Prelude.{ℕ, Bool, true, List, codes, Option, Some, None, option_map, if◌then◌else◌}
use Rattle.std.specs.Str.{bytes_eq}
use Rattle.histar_flat.specs.declared.calls.Mode.{Mode}
use Rattle.histar_flat.specs.declared.calls.Mode.TheVariants.{Private, Readable, Open, Group}
use Rattle.histar_flat.specs.Words.{is_user_name, user_name_of, split_at_first}

-- the byte between `group` and the group's name in a mode, a colon
abbrev pub colon : ℕ
colon = 58

-- the mode `group:NAME`, where NAME may be a user's
unfoldable pub group_mode_of : List ℕ → Option Mode
group_mode_of bs =
    if bytes_eq (split_at_first colon bs).0 (codes "group")
    then elim (split_at_first colon bs).1 [ None ↦ None | Some name ↦ option_map (λ group. Group group) (user_name_of name) ]
    else None

-- the mode that the bytes name, if they name one: `private`, `readable`, `open` or a group's
abbrev pub mode_of : List ℕ → Option Mode
mode_of bs =
    if bytes_eq bs (codes "private") then Some Private
    else (if bytes_eq bs (codes "readable") then Some Readable
    else (if bytes_eq bs (codes "open") then Some Open
    else group_mode_of bs))

-- the modes that a line of a script can name
abbrev pub is_line_mode : Mode → Bool
is_line_mode (Group name) = is_user_name name
is_line_mode mode = true
