-- What a category is for, by the numbers that boot gave and the labels of the containers of a process.
use Rattle.std.specs.Prelude.{ℕ, ◌+◌, ◌*◌, ◌-◌, ◌/◌, ◌%◌, ◌==◌, Bool, false, ◌&&◌, nat_le, nat_lt, List, [], ◌∷◌, ◌++◌, length}
use Rattle.std.specs.Prelude.{Option, None, Some, codes, slice_get, if◌then◌else◌}
use Rattle.histar_flat.specs.Words.{Name, ProcName}
use Rattle.histar_flat.specs.Texts.{process_text}
use Rattle.histar_flat.specs.Accounts.{Group, Accounts}
use Rattle.histar_level.specs.Levels.{Levels, level_of}
use Rattle.histar_object.specs.Objects.{label_there}
use Rattle.histar_object.specs.State.{State}
use Rattle.histar_layout.specs.Jobs.{is_three}
use Rattle.histar_layout.specs.Reading.{◌>>=◌}
use Rattle.histar_programs.specs.Caller.{home_at, if_runs, is_zero, status_at}
use Rattle.histar_programs.specs.Kin.{user_name}
use Rattle.histar_programs.specs.declared.roots.Home.{Home}
use Rattle.histar_programs.specs.declared.roots.Roots.{Roots}
use Rattle.histar_names.specs.declared.purposes.Purpose.{Purpose}
use Rattle.histar_names.specs.declared.purposes.Purpose.TheVariants.{Boot, Reads, Writes, ReadsProcess, WritesProcess, Job}

-- the first of two, if it is there, and else the second
abbrev pub or_else : {A : Type 0} → Option A → Option A → Option A
or_else None y = y
or_else (Some x) y = Some x

-- ---- what boot made: one for itself, then two for nobody, for each user and for each group, and two for process 0

-- the owner of both categories of a pair: 0 is nobody, then come the users, and then the groups
abbrev pub owner_in : ℕ → ℕ
owner_in c = (c - 2) / 2

-- what the first or the second category of a pair is for
abbrev pub pair_purpose : ℕ → Purpose
pair_purpose c = if (c % 2) == 0 then Reads (owner_in c) else Writes (owner_in c)

-- what boot made a category for after those of nobody, of users and of groups
abbrev pub first_purpose : ℕ → ℕ → Option Purpose
first_purpose owners c =
    if c == (4 + 2 * owners) then Some (ReadsProcess []) else (if c == (5 + 2 * owners) then Some (WritesProcess []) else None)

-- what boot made a category for, with this many users and groups together
abbrev pub boot_purpose : ℕ → ℕ → Option Purpose
boot_purpose owners c =
    if c == 1 then Some Boot else (if nat_le 2 c && nat_lt c (4 + 2 * owners) then Some (pair_purpose c) else first_purpose owners c)

-- ---- the categories of a process

-- the label of the container of a process
abbrev pub outer_label : State → Home → ProcName → Option Levels
outer_label s first me = do
  home ← home_at s first me
  label_there (s.objects home.container)

-- the label of the internal container of a process, if it runs
abbrev pub inner_label : State → Home → ProcName → Option Levels
inner_label s first me = do
  home ← home_at s first me
  status ← status_at s home.segment
  if_runs status.exited (label_there (s.objects status.internal))

-- a label that is there has a category at 0
abbrev pub has_zero : Option Levels → ℕ → Bool
has_zero None c = false
has_zero (Some L) c = is_zero (level_of L c)

-- a label that is there has a category at 3
abbrev pub has_three : Option Levels → ℕ → Bool
has_three None c = false
has_three (Some L) c = is_three (level_of L c)

-- the job of a process whose container has its category at 3, if it begins with the process: its parent's container doesn't have it at 3
abbrev pub job_by : State → Home → ℕ → ProcName → Option Purpose
job_by s first c [] = None
job_by s first c (n ∷ above) = if has_three (outer_label s first above) c then None else Some (Job (n ∷ above))

-- What a category is for, if it is one of a process's: its container has at 0 the one by which it writes, and at 3 those of its
-- jobs; its internal container also has at 3 the one by which it keeps its secrets.
abbrev pub purpose_by : State → Home → ℕ → ProcName → Option Purpose
purpose_by s first c me =
    if has_zero (outer_label s first me) c then Some (WritesProcess me)
    else (if has_three (outer_label s first me) c then job_by s first c me
    else (if has_three (inner_label s first me) c then Some (ReadsProcess me) else None))

-- ---- its text

-- the name of a group that is there
abbrev pub name_of_group : Option Group → Name
name_of_group None = []
name_of_group (Some group) = group.name

-- the name of nobody, of a user or of a group
abbrev pub owner_name : Accounts → ℕ → Name
owner_name accounts i =
    if nat_le i (length accounts.users) then user_name accounts.users i
    else name_of_group (slice_get accounts.groups (i - length accounts.users - 1))

-- what a category is for
abbrev pub purpose_text : Accounts → Purpose → List ℕ
purpose_text accounts Boot = codes "the kernel's own category"
purpose_text accounts (Reads i) = codes "read:" ++ owner_name accounts i
purpose_text accounts (Writes i) = codes "write:" ++ owner_name accounts i
purpose_text accounts (ReadsProcess me) = codes "own-read:" ++ process_text me
purpose_text accounts (WritesProcess me) = codes "own-write:" ++ process_text me
purpose_text accounts (Job me) = codes "job:" ++ process_text me
