-- Why a process may not read or write a class, and why it doesn't see another process: the first part of the rule that fails.
use Rattle.std.specs.Prelude.{Bool, not, List, [], ◌∷◌, Option, None, Some, find, option_map}
use Rattle.histar_base.specs.Paths.{same}
use Rattle.histar_base.specs.Refusals.{◌orelse◌, unless}
use Rattle.histar_flat.specs.Words.{Name, ProcName}
use Rattle.histar_flat.specs.Accounts.{Accounts, has, is_member}
use Rattle.histar_flat.specs.Classes.{Class, Process, knows}
use Rattle.histar_flat.specs.Classes.Class.{Private, Readable, Open, Scratch, Grouped}

-- a part of the rule of a class that fails
pub data Cause : Type 0 where
  -- it is private, readable or scratch, of this owner, who is not the process's user; it is of this group, and the user is no member
  IsPrivate IsReadable IsScratch IsGrouped : Name → Cause
  -- it is of this job, which the process neither is in nor holds; the process is in this job, and it is not of the job
  NeedsJob LeavesJob : ProcName → Cause

-- the first element that fails a test
abbrev pub first_not : {A : Type 0} → (A → Bool) → List A → Option A
first_not test xs = find (λ x. not (test x)) xs

-- the first of these jobs that the process doesn't know
abbrev pub unknown : Process → List ProcName → Option ProcName
unknown p jobs = first_not (knows p) jobs

-- the first job of the process that is none of these
abbrev pub left : Process → List ProcName → Option ProcName
left p jobs = first_not (has jobs) p.chain

-- why a process may not read a class: the parts of `may_read`, in their order
abbrev pub unread : Accounts → Process → Class → Option Cause
unread accounts p (Private owner) = unless (same p.user owner) (IsPrivate owner)
unread accounts p (Readable owner) = None
unread accounts p Open = None
unread accounts p (Scratch owner jobs) = unless (same p.user owner) (IsScratch owner) orelse option_map NeedsJob (unknown p jobs)
unread accounts p (Grouped group) = unless (is_member accounts p.user group) (IsGrouped group)

-- why a process may not write a class: the parts of `may_write`, in their order
abbrev pub unwritten : Accounts → Process → Class → Option Cause
unwritten accounts p (Private owner) = unless (same p.user owner) (IsPrivate owner) orelse option_map LeavesJob (left p [])
unwritten accounts p (Readable owner) = unless (same p.user owner) (IsReadable owner) orelse option_map LeavesJob (left p [])
unwritten accounts p Open = option_map LeavesJob (left p [])
unwritten accounts p (Scratch owner jobs) =
    (unless (same p.user owner) (IsScratch owner) orelse option_map NeedsJob (unknown p jobs)) orelse option_map LeavesJob (left p jobs)
unwritten accounts p (Grouped group) = unless (is_member accounts p.user group) (IsGrouped group) orelse option_map LeavesJob (left p [])

-- the last of these jobs
abbrev pub last_of : List ProcName → Option ProcName
last_of [] = None
last_of (job ∷ []) = Some job
last_of (outer ∷ job ∷ jobs) = last_of (job ∷ jobs)

-- the innermost job that the process is in
abbrev pub innermost : Process → Option ProcName
innermost p = last_of p.chain
