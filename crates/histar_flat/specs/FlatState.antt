-- The flat state: a map from paths to files and directories, and a map from names to processes; lookups, the walk, and updates.
use Rattle.std.specs.Prelude.{◌≡◌, Bool, true, false, not, cond, List, [], ◌∷◌, map, ℕ, ◌+◌, ◌&&◌, nat_le, Option, None, Some}
use Rattle.std.specs.List.{filter_map}
use Rattle.histar_base.specs.Refusals.{◌orelse◌, unless}
use Rattle.histar_flat.specs.declared.replies.Errno.{Errno}
use Rattle.histar_flat.specs.declared.replies.Errno.TheVariants.{EACCES, ENOENT, ENOTDIR}
use Rattle.histar_flat.specs.Words.{Name, Path, ProcName}
use Rattle.histar_base.specs.Paths.{same, same_path}
use Rattle.histar_flat.specs.PathOrder.{under_path, under_process}
use Rattle.histar_flat.specs.Accounts.{Accounts}
use Rattle.histar_flat.specs.Files.{Files, get, insert, keep, from_list}
use Rattle.histar_flat.specs.Classes.{Class, Process, may_read, may_write}
use Rattle.histar_flat.specs.Classes.Class.{Open}

-- a directory, or a file with its bytes
pub data Content : Type 0 where
  Dir : Content
  File : List ℕ → Content

-- what is at a path
pub record Node : Type 0 where
  pub class : Class
  pub content : Content

-- the state: what is at each path, and the process of each name
pub record Flat : Type 0 where
  pub files : Files Node
  pub processes : ProcName → Option Process

-- there is a value, and it passes the test
abbrev pub is_some_and : {A : Type 0} → Option A → (A → Bool) → Bool
is_some_and None test = false
is_some_and (Some x) test = test x

-- the node is a directory
abbrev pub is_dir : Node → Bool
is_dir n = elim n.content [ Dir ↦ true | File bytes ↦ false ]

-- something is at the path
abbrev pub is_there : Flat → Path → Bool
is_there f q = is_some_and (get f.files q) (λ n. true)

-- a directory is at the path
abbrev pub is_dir_at : Flat → Path → Bool
is_dir_at f q = is_some_and (get f.files q) is_dir

-- a file is at the path
abbrev pub is_file_at : Flat → Path → Bool
is_file_at f q = is_some_and (get f.files q) (λ n. not (is_dir n))

-- the paths are a tree: `/` is a directory, and whatever has a parent has a directory as its parent
pub record IsTree (f : Flat) : Type 0 where
  pub root : is_dir_at f [] ≡ true
  pub below : (n : Name) (d : Path) → is_there f (n ∷ d) ≡ true → is_dir_at f d ≡ true

-- the process may read what is at the path
abbrev pub reads : Accounts → Flat → Process → Path → Bool
reads accounts f p q = is_some_and (get f.files q) (λ n. may_read accounts p n.class)

-- the process may write what is at the path
abbrev pub writes : Accounts → Flat → Process → Path → Bool
writes accounts f p q = is_some_and (get f.files q) (λ n. may_write accounts p n.class)

-- the bytes of the node, if it is a file
abbrev pub bytes_of : Option Node → List ℕ
bytes_of None = []
bytes_of (Some n) = elim n.content [ Dir ↦ [] | File bytes ↦ bytes ]

-- the bytes of the file at the path
abbrev pub bytes_at : Flat → Path → List ℕ
bytes_at f q = bytes_of (get f.files q)

-- an entry of a directory: its name, and whether it is a directory
abbrev pub Entry : Type 0
Entry = Name × Bool

-- the entry of the directory d that is at a path, if it is one
abbrev pub entry_in : Path → Path × Node → Option Entry
entry_in d e = elim e.0 [ [] ↦ None | n ∷ above ↦ cond (same_path d above) (Some (n, is_dir e.1)) None ]

-- the entries of a directory, by rising names
abbrev pub entries_in : Flat → Path → List Entry
entries_in f d = filter_map (entry_in d) f.files.entries

-- The first refusal on the way into a directory: from `/` on, a directory may not be read, or it lacks the next name, or the entry of that
-- name is no directory.
abbrev pub into : Accounts → Flat → Process → Path → Option Errno
into accounts f p [] = unless (reads accounts f p []) EACCES
into accounts f p (n ∷ d) =
    into accounts f p d
    orelse unless (is_there f (n ∷ d)) ENOENT
    orelse unless (is_dir_at f (n ∷ d)) ENOTDIR
    orelse unless (reads accounts f p (n ∷ d)) EACCES

-- the first refusal on the walk to a path, which is the way into its parent; to `/` there is no walk
abbrev pub walk : Accounts → Flat → Process → Path → Option Errno
walk accounts f p [] = None
walk accounts f p (n ∷ d) = into accounts f p d

-- the state with a node of this class and content at the path
abbrev pub with_node : Flat → Path → Class → Content → Flat
with_node f q class content = record f { files = insert f.files q (record { class = class; content = content }) }

-- the class of what is there; no call that passes asks for it if nothing is
abbrev pub class_of : Option Node → Class
class_of None = Open
class_of (Some n) = n.class

-- the state with these bytes in the file, which keeps its class
abbrev pub with_bytes : Flat → Path → List ℕ → Flat
with_bytes f q bytes = with_node f q (class_of (get f.files q)) (File bytes)

-- the state with this process under the name
abbrev pub with_process : Flat → ProcName → Process → Flat
with_process f me p = record f { processes = λ q. cond (same me q) (Some p) (f.processes q) }

-- the state without what is at the path and all below it
abbrev pub without_below : Flat → Path → Flat
without_below f q = record f { files = keep f.files (λ r. not (under_path q r)) }

-- where a path leads once the file or directory at `old` is at `new`
abbrev pub moved : Path → Path → Path → Path
moved old new [] = []
moved old new (n ∷ d) = cond (same_path old (n ∷ d)) new (n ∷ moved old new d)

-- the state with all paths as they are once the file or directory at `old` is at `new`
abbrev pub with_renamed : Flat → Path → Path → Flat
with_renamed f old new = record f { files = from_list (map (λ e. (moved old new e.0, e.1)) f.files.entries) }

-- the state with one more child of the process `me`, which is p, in these jobs; a child has its parent's user, runs, and holds nothing
abbrev pub with_child : Flat → ProcName → Process → List ProcName → Flat
with_child f me p chain =
    with_process (with_process f me (record p { born = p.born + 1 })) ((p.born + 1) ∷ me)
    (record { user = p.user; chain = chain; held = []; exited = None; born = 0 })

-- the state without the process and all below it
abbrev pub without_process : Flat → ProcName → Flat
without_process f me = record f { processes = λ q. cond (under_process me q) None (f.processes q) }

-- the process has given the number to a child; of a process that is not there every number counts as given
abbrev pub was_given : Option Process → ℕ → Bool
was_given None n = true
was_given (Some p) n = nat_le 1 n && nat_le n p.born

-- each number in a name was given to a child that was born to the process before it
abbrev pub is_given : (ProcName → Option Process) → ProcName → Bool
is_given processes [] = true
is_given processes (n ∷ p) = was_given (processes p) n && is_given processes p
