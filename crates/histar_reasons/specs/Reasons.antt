-- Why a call is refused: the first need of its rule that is not met, with what its sentence names.
use Rattle.std.specs.Prelude.{ℕ, ◌+◌, [], ◌∷◌, length, Option, None, Some, is_some, option_map, if◌then◌else◌}
use Rattle.histar_base.specs.Refusals.{◌orelse◌, unless}
use Rattle.histar_flat.specs.declared.calls.UnixCall.{UnixCall}
use Rattle.histar_flat.specs.declared.calls.Mode.{Mode}
use Rattle.histar_flat.specs.declared.calls.Mode.TheVariants as modes
use Rattle.histar_flat.specs.declared.replies.Errno.{Errno}
use Rattle.histar_flat.specs.declared.replies.Errno.TheVariants.{ENOENT, ENOTDIR, EISDIR, EEXIST, EACCES, EPERM, ENOTEMPTY, EBUSY, ENOSPC, EFBIG}
use Rattle.histar_flat.specs.declared.replies.Errno.TheVariants.{ESRCH, EAGAIN, EAUTH}
use Rattle.histar_flat.specs.Words.{Name, Path, ProcName}
use Rattle.histar_flat.specs.PathOrder.{parent}
use Rattle.histar_flat.specs.Accounts.{Accounts}
use Rattle.histar_flat.specs.Files.{get}
use Rattle.histar_flat.specs.Classes.{Process}
use Rattle.histar_flat.specs.FlatState.{Flat, is_there, is_dir_at, bytes_at, entries_in, class_of, is_given}
use Rattle.histar_flat.specs.Needs.{Test, Need, passes}
use Rattle.histar_flat.specs.Needs.Test.{NotRoot, Exists, IsFile, IsDirectory, Absent, AbsentBeside, MayRead}
use Rattle.histar_flat.specs.Needs.Test.{MayWrite, MayWriteAbove, HasRoomAbove, IsEmpty}
use Rattle.histar_flat.specs.Needs.Test.{Fits, MayMake, HasChildLeft, HasNumberLeft, IsChild, IsUser, HasPassword, InNoJob, IsSomebody}
use Rattle.histar_flat.specs.Needs.Need.{Nothing, Walk, ◌then◌, ◌or◌, Found}
use Rattle.histar_flat.specs.CallRules.{path_of, rule}
use Rattle.histar_reasons.specs.Causes.{Cause, unknown, unread, unwritten, innermost}

-- why a call of a running process is refused
pub data Reason : Type 0 where
  -- the process may not read what is at the path; may not write it
  MayNotRead MayNotWrite : Path → Cause → Reason
  -- nothing is at the path; a file is; a directory is; something is
  IsMissing HasFile HasDirectory IsTaken : Path → Reason
  -- `/` is neither removed nor renamed
  RootStays : Reason
  -- the directory has this many entries, and no room; it has this many, and is not empty; the file would have this many bytes
  IsFull IsNotEmpty IsTooLong : Path → ℕ → Reason
  -- nobody makes only what is open; the user is no member of the group
  MakesOnlyOpen : Reason
  IsNoMember : Name → Reason
  -- this many children were born to the process; its name has this many numbers
  HadChildren HasNumbers : ℕ → Reason
  -- no process has this name; the process doesn't see the one of this name, for it doesn't know the job; it is no child of the caller
  NoProcess : ProcName → Reason
  IsUnseen : ProcName → ProcName → Reason
  IsNoChild : ProcName → Reason
  -- no user has this name; the user has another password
  NoUser WrongPassword : Name → Reason
  -- the process is in this job, and so may not log in
  IsInJob : ProcName → Reason
  -- nobody starts no job
  StartsNoJob : Reason

-- the refusal that is answered for a reason
abbrev pub errno_of : Reason → Errno
errno_of (MayNotRead q cause) = EACCES
errno_of (MayNotWrite q cause) = EACCES
errno_of (IsMissing q) = ENOENT
errno_of (HasFile q) = ENOTDIR
errno_of (HasDirectory q) = EISDIR
errno_of (IsTaken q) = EEXIST
errno_of RootStays = EBUSY
errno_of (IsFull q n) = ENOSPC
errno_of (IsNotEmpty q n) = ENOTEMPTY
errno_of (IsTooLong q n) = EFBIG
errno_of MakesOnlyOpen = EPERM
errno_of (IsNoMember group) = EPERM
errno_of (HadChildren n) = EAGAIN
errno_of (HasNumbers n) = EAGAIN
errno_of (NoProcess name) = ESRCH
errno_of (IsUnseen name job) = EACCES
errno_of (IsNoChild name) = EACCES
errno_of (NoUser name) = ENOENT
errno_of (WrongPassword name) = EAUTH
errno_of (IsInJob job) = EACCES
errno_of StartsNoJob = EPERM

-- why a call may not name `/`, by its refusal
abbrev pub root_reason : Errno → Path → Reason
root_reason EEXIST q = IsTaken q
root_reason EISDIR q = HasDirectory q
root_reason _ q = RootStays

-- why nothing is made of a mode
abbrev pub unmade : Mode → Reason
unmade (modes.Group group) = IsNoMember group
unmade _ = MakesOnlyOpen

module _ (accounts : Accounts) (f : Flat) (p : Process) where
  -- why the process may not read what is at a path
  abbrev pub not_read : Path → Option Reason
  not_read q = option_map (MayNotRead q) (unread accounts p (class_of (get f.files q)))

  -- why the process may not write what is at a path
  abbrev pub not_written : Path → Option Reason
  not_written q = option_map (MayNotWrite q) (unwritten accounts p (class_of (get f.files q)))

  -- why the process can't go into a directory: the first on the way that is not there, is a file, or may not be read
  abbrev pub why_into : Path → Option Reason
  why_into [] = not_read []
  why_into (n ∷ d) =
      why_into d
      orelse unless (is_there f (n ∷ d)) (IsMissing (n ∷ d))
      orelse unless (is_dir_at f (n ∷ d)) (HasFile (n ∷ d))
      orelse not_read (n ∷ d)

  -- why the process can't walk to a path
  abbrev pub why_walk : Path → Option Reason
  why_walk [] = None
  why_walk (n ∷ d) = why_into d

  -- why the process doesn't see the process of this name
  abbrev pub unseen : ProcName → Option Process → Option Reason
  unseen name None = None
  unseen name (Some other) = option_map (IsUnseen name) (unknown p other.chain)

  -- why the process doesn't find the one of this name: the first on the search that is not there, or is not seen
  abbrev pub why_not_found : ProcName → Option Reason
  why_not_found [] = None
  why_not_found (n ∷ above) =
      why_not_found above
      orelse unless (is_some (f.processes (n ∷ above))) (NoProcess (n ∷ above))
      orelse unseen (n ∷ above) (f.processes (n ∷ above))

module _ (accounts : Accounts) (f : Flat) (me : ProcName) (p : Process) (q : Path) where
  -- why a test fails
  abbrev pub why_test : Errno → Test → Option Reason
  why_test e NotRoot = unless (passes accounts f me p q NotRoot) (root_reason e q)
  why_test e Exists = unless (passes accounts f me p q Exists) (IsMissing q)
  why_test e IsFile = unless (passes accounts f me p q IsFile) (HasDirectory q)
  why_test e IsDirectory = unless (passes accounts f me p q IsDirectory) (HasFile q)
  why_test e Absent = unless (passes accounts f me p q Absent) (IsTaken q)
  why_test e (AbsentBeside name) = unless (passes accounts f me p q (AbsentBeside name)) (IsTaken (name ∷ parent q))
  why_test e MayRead = not_read accounts f p q
  why_test e MayWrite = not_written accounts f p q
  why_test e MayWriteAbove = not_written accounts f p (parent q)
  why_test e HasRoomAbove = unless (passes accounts f me p q HasRoomAbove) (IsFull (parent q) (length (entries_in f (parent q))))
  why_test e IsEmpty = unless (passes accounts f me p q IsEmpty) (IsNotEmpty q (length (entries_in f q)))
  why_test e (Fits new) = unless (passes accounts f me p q (Fits new)) (IsTooLong q (length (new (bytes_at f q))))
  why_test e (MayMake mode) = unless (passes accounts f me p q (MayMake mode)) (unmade mode)
  why_test e HasChildLeft = unless (passes accounts f me p q HasChildLeft) (HadChildren p.born)
  why_test e HasNumberLeft = unless (passes accounts f me p q HasNumberLeft) (HasNumbers (length me + 1))
  why_test e (IsChild name) = unless (passes accounts f me p q (IsChild name)) (IsNoChild name)
  why_test e (IsUser name) = unless (passes accounts f me p q (IsUser name)) (NoUser name)
  why_test e (HasPassword name password) = unless (passes accounts f me p q (HasPassword name password)) (WrongPassword name)
  why_test e InNoJob = option_map IsInJob (innermost p)
  why_test e IsSomebody = unless (passes accounts f me p q IsSomebody) StartsNoJob

  -- why a need is not met: its first part that is not
  abbrev pub why_need : Need → Option Reason
  why_need Nothing = None
  why_need (a then b) = why_need a orelse why_need b
  why_need (test or e) = why_test e test
  why_need Walk = why_walk accounts f p q
  why_need (Found name) = why_not_found accounts f p name

-- why a call of the process p, whose name is me, is refused
abbrev pub why : Accounts → Flat → ProcName → Process → UnixCall → Option Reason
why accounts f me p call = why_need accounts f me p (path_of call) (rule call).needs

-- why a process is gone
pub data Absence : Type 0 where
  -- it has exited; its number, or one in its name, was never given; this process was killed, which it is or is below
  HasExited WasNeverStarted : Absence
  WasKilled : ProcName → Absence

-- the process, or the one above it that is under a process that is there
abbrev pub first_absent : Flat → ProcName → ProcName
first_absent f [] = []
first_absent f (n ∷ above) = if is_some (f.processes above) then n ∷ above else first_absent f above

-- why the process of this name doesn't run, where it doesn't
abbrev pub absence : Flat → ProcName → Absence
absence f me =
    if is_some (f.processes me) then HasExited
    else if is_given f.processes me then WasKilled (first_absent f me)
    else WasNeverStarted
