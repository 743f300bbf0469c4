-- Scripts of three users, of whom root is the first, and of processes that make their calls.
use Rattle.std.specs.Prelude.{◌≡◌, ℕ, List, [], ◌∷◌, ◌++◌, None, Some, codes, refl}
use Rattle.std.specs.List.{flat_map}
use Rattle.std.specs.Fmt.{decimal, digits}
use Rattle.histar_flat.specs.declared.calls.CallLine.{CallLine}
use Rattle.histar_flat.specs.declared.calls.Mode.TheVariants as modes
use Rattle.histar_flat.specs.declared.calls.UnixCall.{UnixCall}
use Rattle.histar_flat.specs.declared.calls.UnixCall.TheVariants.{Mkdir, Spawn, Whoami, Login}
use Rattle.histar_flat.specs.Texts.{path_text, stat_text, reply_text}
use Rattle.histar_flat.specs.Words.{Path, ProcName}
use Rattle.histar_flat.specs.Accounts.{Accounts}
use Rattle.histar_flat.specs.Files.{get}
use Rattle.histar_flat.specs.Classes.{class_owner, class_mode}
use Rattle.histar_flat.specs.FlatState.{Flat, Node, Content, is_dir}
use Rattle.histar_flat.specs.FlatState.Content.{Dir, File}
use Rattle.histar_flat.specs.Meaning.{RepliedCall, boot, answered_from, flat_end, meaning}

-- a call line
abbrev pub line_of : ℕ → ProcName → UnixCall → CallLine
line_of line process call = record { line = line; process = process; call = call }

-- replies as they are printed: a line each, with its number, a space and the text of the reply
abbrev pub printed : List RepliedCall → List ℕ
printed = flat_map (λ (a : RepliedCall). decimal a.call.line ++ codes " " ++ reply_text a.reply ++ codes "\n")

-- what is printed of a path: the path, its kind, its owner and its mode, and the bytes of a file
abbrev content_printed : Content → List ℕ
content_printed Dir = []
content_printed (File bytes) = codes " = " ++ bytes

abbrev node_printed : Path → Node → List ℕ
node_printed q node =
    path_text q ++ codes " "
    ++ stat_text (record { is_directory = is_dir node; owner = class_owner node.class; mode = class_mode node.class })
    ++ content_printed node.content ++ codes "\n"

-- the line of the path, if something is there
abbrev pub printed_at : Flat → Path → List ℕ
printed_at f q = elim (get f.files q) [ None ↦ [] | Some node ↦ node_printed q node ]

-- a line for each file and each directory at the end of a script, in the order of their paths
abbrev pub tree_after : Accounts → List CallLine → List ℕ
tree_after accounts calls = flat_map (λ e. node_printed e.0 e.1) (flat_end accounts (boot accounts) calls).files.entries

-- root, alice and bob, in no group
abbrev pub three_users : Accounts
three_users = record {
  users =
      record { name = codes "root"; password = codes "rr" } ∷ record { name = codes "alice"; password = codes "aa" }
      ∷ record { name = codes "bob"; password = codes "bb" } ∷ [];
  groups = [];
}

-- the same users and carol, and a group of alice and bob
abbrev pub with_a_team : Accounts
with_a_team = record {
  users =
      record { name = codes "root"; password = codes "rr" } ∷ record { name = codes "alice"; password = codes "aa" }
      ∷ record { name = codes "bob"; password = codes "bb" }
      ∷ record { name = codes "carol"; password = codes "cc" } ∷ [];
  groups = record { name = codes "team"; members = codes "alice" ∷ codes "bob" ∷ [] } ∷ [];
}

-- root makes the open directory /tmp, and has two children: 0.1 becomes alice's, and 0.2 bob's
abbrev pub tmp_made : List CallLine
tmp_made =
    line_of 4 [] Spawn ∷
    line_of 5 [] Spawn ∷
    line_of 6 [] (Login (codes "root") (codes "rr")) ∷
    line_of 7 [] (Mkdir (codes "tmp" ∷ []) modes.Open) ∷
    line_of 8 (1 ∷ []) (Login (codes "alice") (codes "aa")) ∷
    line_of 9 (2 ∷ []) (Login (codes "bob") (codes "bb")) ∷ []

pub tmp_is_made : printed (meaning three_users tmp_made) ≡ codes "4 ok 0.1\n5 ok 0.2\n6 ok\n7 ok\n8 ok\n9 ok\n"
unfolding digits
tmp_is_made = refl

-- what is printed of these calls, and of a script that goes on from there
abbrev pub tmp_printed : List ℕ
tmp_printed = codes "4 ok 0.1\n5 ok 0.2\n6 ok\n7 ok\n8 ok\n9 ok\n"

abbrev pub from_tmp : List CallLine → List ℕ
from_tmp calls = printed (meaning three_users (tmp_made ++ calls))

-- what is printed for the lines after that
abbrev pub after_tmp : List CallLine → List ℕ
after_tmp calls = printed (answered_from three_users (flat_end three_users (boot three_users) tmp_made) calls)

-- without a login a process is nobody's
pub nobody_at_first : printed (meaning three_users (line_of 2 [] Whoami ∷ [])) ≡ codes "2 ok nobody\n"
unfolding digits
nobody_at_first = refl
