-- Reasons as the code has them, and which part of a call's needs is not met, by what was seen.
use Rattle.std.specs.Prelude.{◌≡◌, ℕ, ◌+◌, ◌==◌, Bool, not, nat_le, nat_lt, List, [], ◌∷◌, length, Option, None, Some}
use Rattle.std.specs.Prelude.{is_some, option_and_then, option_map}
use Rattle.histar_base.specs.Paths.{same}
use Rattle.histar_base.specs.Refusals.{◌orelse◌, unless}
use Rattle.histar_flat.specs.declared.replies.Errno.{Errno}
use Rattle.histar_flat.specs.Words.{Path, most_children, most_numbers}
use Rattle.histar_flat.specs.Accounts.{user_number}
use Rattle.histar_flat.specs.Classes.{nobody, class_made}
use Rattle.histar_flat.specs.FlatState.{is_some_and}
use Rattle.histar_flat.specs.Needs.{is_below_root, is_child, most_bytes, most_entries}
use Rattle.histar_flat.specs.PathOrder.{parent}
use Rattle.histar_reasons.specs.Causes.{Cause, innermost}
use Rattle.histar_reasons.specs.Reasons.{Reason, root_reason, unmade}
use Rattle.histar_reasons.specs.Reasons.Reason.{MayNotRead, MayNotWrite, IsMissing, HasFile, HasDirectory, IsTaken}
use Rattle.histar_reasons.specs.Reasons.Reason.{RootStays, IsFull, IsNotEmpty, IsTooLong, MakesOnlyOpen, IsNoMember}
use Rattle.histar_reasons.specs.Reasons.Reason.{HadChildren, HasNumbers, NoProcess, IsUnseen, IsNoChild, NoUser}
use Rattle.histar_reasons.specs.Reasons.Reason.{WrongPassword, IsInJob, StartsNoJob}
use Rattle.histar_why.specs.declared.asked.Kept.{Kept}
use Rattle.histar_why.specs.declared.asked.Kept.TheVariants.{All, Nothing}
use Rattle.histar_why.specs.declared.asked.Part.{Part}
use Rattle.histar_why.specs.declared.asked.Part.TheVariants as parts
use Rattle.histar_why.specs.declared.asked.ProcessPart.{ProcessPart}
use Rattle.histar_why.specs.declared.asked.ProcessPart.TheVariants as of_process
use Rattle.histar_why.specs.declared.reasons.PathReason.{PathReason as AtPath}
use Rattle.histar_why.specs.declared.reasons.PathReason.TheVariants as at_path
use Rattle.histar_why.specs.declared.reasons.ProcessReason.{ProcessReason as OwnReason}
use Rattle.histar_why.specs.declared.reasons.ProcessReason.TheVariants as own
use Rattle.histar_why.specs.declared.reasons.Reason.{Reason as Found}
use Rattle.histar_why.specs.declared.reasons.Reason.TheVariants as found
use Rattle.histar_why.specs.declared.ways.Spot.{Spot}
use Rattle.histar_why.specs.declared.views.View.{View}
use Rattle.histar_why.specs.Barriers.{barrier_of}
use Rattle.histar_why.specs.Causes.{cause_of}
use Rattle.histar_why.specs.Names.{process_of}

-- a reason of a process, as the rules have it
abbrev pub process_reason_of : OwnReason → Reason
process_reason_of own.MakesOnlyOpen = MakesOnlyOpen
process_reason_of (own.IsNoMember group) = IsNoMember group
process_reason_of (own.HadChildren n) = HadChildren n
process_reason_of (own.HasNumbers n) = HasNumbers n
process_reason_of (own.NoProcess name) = NoProcess name
process_reason_of (own.IsUnseen name job) = IsUnseen name job
process_reason_of (own.IsNoChild name) = IsNoChild name
process_reason_of (own.NoUser name) = NoUser name
process_reason_of (own.WrongPassword name) = WrongPassword name
process_reason_of (own.IsInJob job) = IsInJob job
process_reason_of own.StartsNoJob = StartsNoJob

-- a reason of what is at a path, as the rules have it
abbrev pub path_reason_of : Path → AtPath → Reason
path_reason_of q at_path.IsMissing = IsMissing q
path_reason_of q at_path.HasFile = HasFile q
path_reason_of q at_path.HasDirectory = HasDirectory q
path_reason_of q at_path.IsTaken = IsTaken q
path_reason_of q (at_path.IsTakenBeside name) = IsTaken (name ∷ parent q)
path_reason_of q at_path.RootStays = RootStays
path_reason_of q (at_path.IsFull n) = IsFull (parent q) n
path_reason_of q (at_path.IsNotEmpty n) = IsNotEmpty q n
path_reason_of q (at_path.IsTooLong n) = IsTooLong q n

-- it is the reason why a call may not name `/`, by its refusal, of whatever path
abbrev pub IsRootReason : Errno → AtPath → Type 0
IsRootReason errno reason = (q : Path) → path_reason_of q reason ≡ root_reason errno q

-- a reason of a call that names this path, as the rules have it
abbrev pub reason_of : Path → Found → Reason
reason_of q (found.CannotWalk barrier) = barrier_of q barrier
reason_of q (found.MayNotRead cause) = MayNotRead q (cause_of cause)
reason_of q (found.MayNotWrite cause) = MayNotWrite q (cause_of cause)
reason_of q (found.MayNotWriteAbove cause) = MayNotWrite (parent q) (cause_of cause)
reason_of q (found.OfPath reason) = path_reason_of q reason
reason_of q (found.OfProcess reason) = process_reason_of reason

-- ---- what was seen at a path

-- why the process may not read it, and why it may not write it
abbrev pub unread_in : Option Spot → Option Cause
unread_in None = None
unread_in (Some spot) = option_map cause_of spot.seen.unread

abbrev pub unwritten_in : Option Spot → Option Cause
unwritten_in None = None
unwritten_in (Some spot) = option_map cause_of spot.seen.unwritten

-- a directory is there; a file is
abbrev pub has_directory : Option Spot → Bool
has_directory spot = is_some_and spot (λ x. x.seen.is_directory)

abbrev pub has_file : Option Spot → Bool
has_file spot = is_some_and spot (λ x. not x.seen.is_directory)

-- how many bytes it has, how many of them it keeps, and how many it has with new ones
abbrev pub bytes_of : Option Spot → ℕ
bytes_of None = 0
bytes_of (Some spot) = spot.seen.bytes

abbrev pub bytes_kept : Kept → Option Spot → ℕ
bytes_kept All spot = bytes_of spot
bytes_kept Nothing spot = 0

abbrev pub bytes_then : Kept → Option Spot → ℕ → ℕ
bytes_then kept spot new = bytes_kept kept spot + new

-- ---- the parts of a call's needs

module _ (view : View) where
  -- why a part that is of the process alone is not met
  abbrev pub process_reason : ProcessPart → Option Reason
  process_reason of_process.MayMake =
      unless (is_some (class_made view.users.now (process_of view.caller.now) view.asked.now.mode))
      (unmade view.asked.now.mode)
  process_reason of_process.HasChildLeft =
      unless (nat_lt view.caller.now.born most_children) (HadChildren view.caller.now.born)
  process_reason of_process.HasNumberLeft =
      unless (nat_lt (length view.asked.now.process) most_numbers) (HasNumbers (length view.asked.now.process + 1))
  process_reason of_process.Found = option_map process_reason_of view.facts.now.sought
  process_reason of_process.IsChild =
      unless (is_child view.asked.now.process view.asked.now.other) (IsNoChild view.asked.now.other)
  process_reason of_process.IsUser =
      option_and_then (λ name. unless (is_some (user_number view.users.now name)) (NoUser name)) view.asked.now.user
  process_reason of_process.HasPassword = option_map WrongPassword view.asked.now.user
  process_reason of_process.InNoJob = option_map IsInJob (innermost (process_of view.caller.now))
  process_reason of_process.IsSomebody = unless (not (same view.caller.now.user nobody)) StartsNoJob

  -- why a part that is of what is at a path, whoever calls, is not met; none for other parts
  abbrev pub path_reason : Part → Option Reason
  path_reason (parts.NotRoot e) = unless (is_below_root view.asked.now.path) (root_reason e view.asked.now.path)
  path_reason parts.Exists = unless (is_some view.facts.now.way.here) (IsMissing view.asked.now.path)
  path_reason parts.IsFile = unless (has_file view.facts.now.way.here) (HasDirectory view.asked.now.path)
  path_reason parts.IsDirectory = unless (has_directory view.facts.now.way.here) (HasFile view.asked.now.path)
  path_reason parts.Absent = unless (not (is_some view.facts.now.way.here)) (IsTaken view.asked.now.path)
  path_reason parts.AbsentBeside =
      option_and_then (λ name. unless (not view.facts.now.beside) (IsTaken (name ∷ parent view.asked.now.path)))
      view.asked.now.beside
  path_reason parts.HasRoomAbove =
      unless (nat_lt view.facts.now.above most_entries) (IsFull (parent view.asked.now.path) view.facts.now.above)
  path_reason parts.IsEmpty = unless (view.facts.now.here == 0) (IsNotEmpty view.asked.now.path view.facts.now.here)
  path_reason (parts.Fits kept) =
      unless (nat_le (bytes_then kept view.facts.now.way.here view.asked.now.new) most_bytes)
      (IsTooLong view.asked.now.path (bytes_then kept view.facts.now.way.here view.asked.now.new))
  path_reason part = None

  -- why a part is not met
  abbrev pub part_reason : Part → Option Reason
  part_reason parts.Walk = option_map (barrier_of view.asked.now.path) view.facts.now.way.walk
  part_reason parts.MayRead = option_map (MayNotRead view.asked.now.path) (unread_in view.facts.now.way.here)
  part_reason parts.MayWrite = option_map (MayNotWrite view.asked.now.path) (unwritten_in view.facts.now.way.here)
  part_reason parts.MayWriteAbove =
      option_map (MayNotWrite (parent view.asked.now.path)) (unwritten_in view.facts.now.way.above)
  part_reason (parts.OfProcess part) = process_reason part
  part_reason part = path_reason part

  -- why the first of these parts that is not met isn't
  abbrev pub first_reason : List Part → Option Reason
  first_reason [] = None
  first_reason (part ∷ more) = part_reason part orelse first_reason more
