-- Processes and classes of files: who may read and write what, and what a process makes.
use Rattle.std.specs.Prelude.{ℕ, Bool, true, false, ◌||◌, ◌&&◌, List, [], ◌∷◌, Option, None, Some, codes, if◌then◌else◌}
use Rattle.std.specs.List.{list_all}
use Rattle.histar_flat.specs.declared.calls.Mode.{Mode}
use Rattle.histar_flat.specs.declared.calls.Mode.TheVariants as modes
use Rattle.histar_flat.specs.declared.replies.FileMode.{FileMode}
use Rattle.histar_flat.specs.declared.replies.FileMode.TheVariants as file_modes
use Rattle.histar_flat.specs.Words.{Name, ProcName}
use Rattle.histar_flat.specs.Accounts.{Accounts, has, is_member}
use Rattle.histar_base.specs.Paths.{same}

-- the class of a file or a directory: its owner, and who may read and write it
pub data Class : Type 0 where
  -- for its owner alone
  Private : Name → Class
  -- for everyone to read, and for its owner to write
  Readable : Name → Class
  -- for everyone
  Open : Class
  -- for its owner in these jobs, outermost first; a job is named by its first process
  Scratch : Name → List ProcName → Class
  -- for the members of this group
  Grouped : Name → Class

-- a process: its user, the jobs that it is in, outermost first, the jobs that it holds, its exit status if it has exited, and how many
-- children were born to it
pub record Process : Type 0 where
  pub user : Name
  pub chain : List ProcName
  pub held : List ProcName
  pub exited : Option ℕ
  pub born : ℕ

-- the user of a process that has not logged in
abbrev pub nobody : Name
nobody = codes "nobody"

-- the process is in no job
abbrev pub is_free : Process → Bool
is_free p = elim p.chain [ [] ↦ true | job ∷ jobs ↦ false ]

-- the process is in the job or holds it
abbrev pub knows : Process → ProcName → Bool
knows p job = has p.chain job || has p.held job

-- A process may read a private file if its user is the owner; a readable or an open file always; scratch if its user is the owner and it
-- knows each of the jobs; and a group's file if its user is a member.
abbrev pub may_read : Accounts → Process → Class → Bool
may_read accounts p (Private owner) = same p.user owner
may_read accounts p (Readable owner) = true
may_read accounts p Open = true
may_read accounts p (Scratch owner jobs) = same p.user owner && list_all (knows p) jobs
may_read accounts p (Grouped group) = is_member accounts p.user group

-- A process may write a private or a readable file if its user is the owner and it is in no job; an open file if it is in no job; scratch
-- if it may read it and is in no job other than these; and a group's file if its user is a member and it is in no job.
abbrev pub may_write : Accounts → Process → Class → Bool
may_write accounts p (Private owner) = same p.user owner && is_free p
may_write accounts p (Readable owner) = same p.user owner && is_free p
may_write accounts p Open = is_free p
may_write accounts p (Scratch owner jobs) = same p.user owner && list_all (knows p) jobs && list_all (has jobs) p.chain
may_write accounts p (Grouped group) = is_member accounts p.user group && is_free p

-- the class of what a process in no job makes, by the mode: one of nobody makes only open files, and one of a member a group's
abbrev pub free_class : Accounts → Process → Mode → Option Class
free_class accounts p modes.Private = if same p.user nobody then None else Some (Private p.user)
free_class accounts p modes.Readable = if same p.user nobody then None else Some (Readable p.user)
free_class accounts p modes.Open = Some Open
free_class accounts p (modes.Group group) = if is_member accounts p.user group then Some (Grouped group) else None

-- the class of what a process makes: in a job it is scratch of its jobs, whatever mode is named
abbrev pub class_made : Accounts → Process → Mode → Option Class
class_made accounts p mode = if is_free p then free_class accounts p mode else Some (Scratch p.user p.chain)

-- a process sees another one if it knows each of the other's jobs
abbrev pub sees : Process → Process → Bool
sees p other = list_all (knows p) other.chain

-- the owner of a file of this class, if it has one
abbrev pub class_owner : Class → Option Name
class_owner (Private owner) = Some owner
class_owner (Readable owner) = Some owner
class_owner Open = None
class_owner (Scratch owner jobs) = Some owner
class_owner (Grouped group) = None

-- the mode of a file of this class
abbrev pub class_mode : Class → FileMode
class_mode (Private owner) = file_modes.Private
class_mode (Readable owner) = file_modes.Readable
class_mode Open = file_modes.Open
class_mode (Scratch owner jobs) = file_modes.Scratch
class_mode (Grouped group) = file_modes.Group group

-- a file of this class is of this job
abbrev pub carries : ProcName → Class → Bool
carries job (Scratch owner jobs) = has jobs job
carries job _ = false
