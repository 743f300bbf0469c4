-- How EACCES and EPERM correspond to the kernel's refusals.
use Rattle.std.specs.Prelude.{◌≡◌, ℕ, Bool, true, false, List, [], ◌∷◌, None, Some}
use Rattle.std.specs.List.{AllByRecursion}
use Rattle.histar_flat.specs.declared.replies.Errno.{Errno}
use Rattle.histar_flat.specs.declared.replies.Errno.TheVariants.{EACCES, EPERM}
use Rattle.histar_flat.specs.declared.replies.Reply.{Reply}
use Rattle.histar_flat.specs.declared.replies.Reply.TheVariants.{Refused}
use Rattle.histar_rules.specs.declared.raw.RawCall.{RawCall}
use Rattle.histar_rules.specs.declared.raw.RawCall.TheVariants as raw
use Rattle.histar_trace.specs.declared.entries.TraceEntry.{TraceEntry}
use Rattle.histar_syscall.specs.KernelModel.{KernelModel}
use Rattle.histar_syscall.specs.Runs.{Ran, some_label_refusal, some_range_refusal}

abbrev pub is_access : Errno → Bool
is_access EACCES = true
is_access _ = false

abbrev pub is_permission : Errno → Bool
is_permission EPERM = true
is_permission _ = false

-- the reply is EACCES
abbrev pub is_no_access : Reply → Bool
is_no_access (Refused errno) = is_access errno
is_no_access _ = false

-- the reply is EPERM
abbrev pub is_no_permission : Reply → Bool
is_no_permission (Refused errno) = is_permission errno
is_no_permission _ = false

-- a raw call that gives the thread a label or a clearance
abbrev pub sets_labels : RawCall → Bool
sets_labels (raw.SetLabel label) = true
sets_labels (raw.SetClearance clearance) = true
sets_labels _ = false

-- a granted entry of a call that gives the thread a label or a clearance
abbrev pub IsRestoring : TraceEntry → Type 0
IsRestoring e = (e.denied ≡ None) × (sets_labels e.call ≡ true)

-- at most one entry was refused, and only granted ones that give labels come after it
abbrev pub IsRefusedOnce : List TraceEntry → Type 0
IsRefusedOnce [] = Unit {0}
IsRefusedOnce (e ∷ entries) = elim e.denied [ None ↦ IsRefusedOnce entries | Some denied ↦ AllByRecursion IsRestoring entries ]

-- The call was made of raw calls of this thread on the line that was begun, and they are a run of the kernel. It replies EACCES
-- exactly where one of them was refused by label, and EPERM exactly where one was refused by range; at most one was refused, and
-- after it the thread was only given labels.
pub record Replies (old new : KernelModel) (thread : ℕ) (reply : Reply) : Type 0 where
  pub entries : List TraceEntry
  pub ran : Ran old new thread entries
  pub access : some_label_refusal entries ≡ is_no_access reply
  pub permission : some_range_refusal entries ≡ is_no_permission reply
  pub once : IsRefusedOnce entries
