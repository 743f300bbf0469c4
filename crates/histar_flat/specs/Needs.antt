-- What a call needs, in the order of its tests, and the refusal if a need is not met.
use Rattle.std.specs.Prelude.{ℕ, Bool, false, true, not, ◌==◌, nat_lt, nat_le, List, [], ◌∷◌, length, Option, None, is_some}
use Rattle.histar_base.specs.Refusals.{◌orelse◌, unless}
use Rattle.histar_flat.specs.declared.calls.Mode.{Mode}
use Rattle.histar_flat.specs.declared.replies.Errno.{Errno}
use Rattle.histar_flat.specs.declared.replies.Errno.TheVariants.{ENOENT, EISDIR, EEXIST, EACCES, EBUSY, ENOSPC, ESRCH, EAGAIN}
use Rattle.histar_flat.specs.Words.{Name, Password, Path, ProcName, most_children, most_numbers}
use Rattle.histar_base.specs.Paths.{same}
use Rattle.histar_flat.specs.PathOrder.{parent}
use Rattle.histar_flat.specs.Accounts.{Accounts, user_named}
use Rattle.histar_flat.specs.Classes.{Process, nobody, is_free, sees, class_made}
use Rattle.histar_flat.specs.FlatState.{Flat, is_some_and, is_there, is_dir_at, is_file_at, reads, writes, bytes_at, entries_in, walk}

-- how many entries a directory may have
abbrev pub most_entries : ℕ
most_entries = 64

-- how many bytes a file may have
abbrev pub most_bytes : ℕ
most_bytes = 4096

-- the path is not `/`
abbrev pub is_below_root : Path → Bool
is_below_root [] = false
is_below_root (n ∷ d) = true

-- the process is a child of `me`
abbrev pub is_child : ProcName → ProcName → Bool
is_child me [] = false
is_child me (n ∷ above) = same me above

-- the first refusal on the search for a process: from process 0 on, a child is not there, or the process may not see it
abbrev pub not_found : Flat → Process → ProcName → Option Errno
not_found f p [] = None
not_found f p (n ∷ above) =
    not_found f p above
    orelse unless (is_some (f.processes (n ∷ above))) ESRCH
    orelse unless (is_some_and (f.processes (n ∷ above)) (sees p)) EACCES

-- a test of a call, of the path that it names and of its process
pub data Test : Type 0 where
  -- the path is not `/`; a file or a directory is there; a file is; a directory is; nothing is
  NotRoot Exists IsFile IsDirectory Absent : Test
  -- nothing has this name in the directory of the path
  AbsentBeside : Name → Test
  -- the process may read what is at the path; may write it; may write the directory of the path
  MayRead MayWrite MayWriteAbove : Test
  -- the directory of the path has room for an entry; the directory at the path has none
  HasRoomAbove IsEmpty : Test
  -- the file may have as many bytes as this makes of its old ones
  Fits : (List ℕ → List ℕ) → Test
  -- the process may make something of this mode
  MayMake : Mode → Test
  -- fewer than 64 children were born to the process; its name has fewer than 8 numbers
  HasChildLeft HasNumberLeft : Test
  -- the process that is named is a child of this one
  IsChild : ProcName → Test
  -- a user has this name; and this password
  IsUser : Name → Test
  HasPassword : Name → Password → Test
  -- the process is in no job; it is not nobody's
  InNoJob IsSomebody : Test

-- what a call needs
infixr 16 ◌then◌
infix 17 ◌or◌
pub data Need : Type 0 where
  -- nothing; that the process can walk to the path, where the walk has refusals of its own
  Nothing Walk : Need
  -- the one, and then the other
  ◌then◌ : Need → Need → Need
  -- that a test passes, or else this refusal
  ◌or◌ : Test → Errno → Need
  -- that the process finds the one of this name, where the search has refusals of its own
  Found : ProcName → Need

module _ (accounts : Accounts) (f : Flat) (me : ProcName) (p : Process) (q : Path) where
  -- whether a test passes, for a call of the process p, whose name is me, that names the path q
  abbrev pub passes : Test → Bool
  passes NotRoot = is_below_root q
  passes Exists = is_there f q
  passes IsFile = is_file_at f q
  passes IsDirectory = is_dir_at f q
  passes Absent = not (is_there f q)
  passes (AbsentBeside name) = not (is_there f (name ∷ parent q))
  passes MayRead = reads accounts f p q
  passes MayWrite = writes accounts f p q
  passes MayWriteAbove = writes accounts f p (parent q)
  passes HasRoomAbove = nat_lt (length (entries_in f (parent q))) most_entries
  passes IsEmpty = length (entries_in f q) == 0
  passes (Fits new) = nat_le (length (new (bytes_at f q))) most_bytes
  passes (MayMake mode) = is_some (class_made accounts p mode)
  passes HasChildLeft = nat_lt p.born most_children
  passes HasNumberLeft = nat_lt (length me) most_numbers
  passes (IsChild name) = is_child me name
  passes (IsUser name) = is_some (user_named accounts.users name)
  passes (HasPassword name password) = is_some_and (user_named accounts.users name) (λ u. same u.password password)
  passes InNoJob = is_free p
  passes IsSomebody = not (same p.user nobody)

  -- the first refusal of a need, for the same call
  abbrev pub unmet : Need → Option Errno
  unmet Nothing = None
  unmet (a then b) = unmet a orelse unmet b
  unmet (test or e) = unless (passes test) e
  unmet Walk = walk accounts f p q
  unmet (Found name) = not_found f p name

-- a new entry: the path is not `/`, the process can walk to it, nothing is there, and its directory has room and may be written
abbrev pub room : Need
room = NotRoot or EEXIST then Walk then Absent or EEXIST then HasRoomAbove or ENOSPC then MayWriteAbove or EACCES

-- a file: the path is not `/`, the process can walk to it, something is there, and it is a file
abbrev pub file : Need
file = NotRoot or EISDIR then Walk then Exists or ENOENT then IsFile or EISDIR

-- an entry, to be removed or renamed: the path is not `/`, the process can walk to it, and something is there
abbrev pub entry : Need
entry = NotRoot or EBUSY then Walk then Exists or ENOENT

-- one more child: the process has a child left, and room for a number in its name
abbrev pub child : Need
child = HasChildLeft or EAGAIN then HasNumberLeft or EAGAIN
