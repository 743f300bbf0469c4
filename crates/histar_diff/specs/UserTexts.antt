-- The text of what differs for users.
use Rattle.std.specs.Prelude.{ℕ, List, ◌++◌, codes}
use Rattle.std.specs.List.{flat_map}
use Rattle.histar_flat.specs.Texts.{path_text}
use Rattle.histar_diff.specs.declared.user_differences.UserDifference.{UserDifference}
use Rattle.histar_diff.specs.declared.users.LoneUser.{LoneUser}
use Rattle.histar_diff.specs.Texts.{change_text, fate_text}

-- the line of a user that one script alone declares: its name, and `new` or `gone`
abbrev pub lone_user_text : LoneUser → List ℕ
lone_user_text l = codes "user " ++ l.user ++ fate_text l.is_new

-- a path, a user, and its letters before and after
abbrev pub user_difference_text : UserDifference → List ℕ
user_difference_text d = path_text d.path ++ codes " " ++ d.user ++ change_text d.before d.after

-- the lines of lone users, and then those of differences
abbrev pub user_differences_text : List LoneUser → List UserDifference → List ℕ
user_differences_text lone ds = flat_map lone_user_text lone ++ flat_map user_difference_text ds
