-- A job, once its category is made: what it is made of, and the part of the program that makes it.
use Rattle.std.specs.Prelude.{◌≡◌, ℕ, List, Some, Result}
use Rattle.histar_flat.specs.Accounts.{Accounts}
use Rattle.histar_flat.specs.Words.{Path}
use Rattle.histar_level.specs.Levels.{Levels}
use Rattle.histar_rules.specs.declared.raw.RawCall.TheVariants.{MakeCategory, OwnLabel}
use Rattle.histar_syscall.specs.KernelModel.{KernelModel}
use Rattle.histar_layout.specs.Status.{ProcessStatus, status_in}
use Rattle.histar_programs.specs.declared.call_error.CallError.{CallError}
use Rattle.histar_programs.specs.declared.find.Room.{Room}
use Rattle.histar_programs.specs.declared.roots.Home.{Home}
use Rattle.histar_programs.specs.declared.roots.Roots.{Roots}
use Rattle.histar_programs.specs.declared.unix.Unix.{Unix}
use Rattle.histar_programs.specs.Parts.{◌>>=◌, ◌>>◌, ask, find_room}
use Rattle.histar_programs.specs.Programs.{Part, RunsPart}
use Rattle.histar_process.specs.Birth.{birth}
use Rattle.histar_programs.specs.Kin.{Kin}
use Rattle.histar_wrap.specs.declared.wrap.Plan.{Plan}
use Rattle.histar_wrap.specs.Scratch.{directory_label, hold_job, kin_in, make_scratch}

-- what a job is made of: the wrapper's own label and clearance, the category, the label of the scratch directory, and what the first process gets
pub record JobPlan : Type 0 where
  pub own : Levels × Levels
  pub job : ℕ
  pub label : Levels
  pub kin : Kin

-- the plan of a new job of a thread with this label and clearance
abbrev pub plan_for : Accounts → Levels × Levels → ℕ → JobPlan
plan_for accounts own job = record { own = own; job = job; label = directory_label accounts own.0 job; kin = kin_in accounts own.0 job }

-- the plan that the code keeps
abbrev pub planned : Plan → JobPlan
planned p = record { own = (p.wrapper.own, p.wrapper.clearance); job = p.job; label = p.label; kin = record { owned = p.owned.items; jobs = p.jobs.items } }

-- The scratch directory is made, the job's first process is born, and the thread holds the job.
abbrev pub fill_job : Home → ProcessStatus → Room → JobPlan → Part (Unit {0})
fill_job me status room plan rest = do
  make_scratch plan.own plan.label room
  birth me status plan.kin
  hold_job plan.own plan.job
  rest tt

-- a job was filled by a thread of the process whose segment has these bytes, whatever status they show
abbrev pub FillsJob : Type 0 → Home → List ℕ → Room → JobPlan → KernelModel → KernelModel → ℕ
    → Result (Unit {0}) CallError → Type 0
FillsJob M home bytes room plan old new thread result =
    (status : ProcessStatus) → status_in bytes ≡ Some status → RunsPart M (fill_job home status room plan) old new thread result

-- The thread asks for its own labels and makes the job's category, and the job is filled.
abbrev pub start_job : Accounts → Home → ProcessStatus → Room → Part (Unit {0})
start_job accounts me status room rest = do
  own ← ask OwnLabel
  job ← ask MakeCategory
  fill_job me status room (plan_for accounts own job)
  rest tt

-- a job was started by a thread of the process whose segment has these bytes, whatever status they show
abbrev pub StartsJob : Type 0 → Accounts → Home → List ℕ → Room → KernelModel → KernelModel → ℕ
    → Result (Unit {0}) CallError → Type 0
StartsJob M accounts home bytes room old new thread result =
    (status : ProcessStatus) → status_in bytes ≡ Some status → RunsPart M (start_job accounts home status room) old new thread result

-- There is room for an entry, and the job is started there.
abbrev pub make_job : Accounts → Roots → Home → Path → ProcessStatus → Part (Unit {0})
make_job accounts roots me path status rest = do
  room ← find_room roots path
  start_job accounts me status room
  rest tt

-- a job was made at a path by the caller, whose segment has these bytes, whatever status they show
abbrev pub MakesJob : Type 0 → Unix → Path → List ℕ → KernelModel → KernelModel → Result (Unit {0}) CallError → Type 0
MakesJob M unix path bytes old new result =
    let caller = unix.caller.now in
    (status : ProcessStatus) → status_in bytes ≡ Some status
    → RunsPart M (make_job unix.users.now unix.roots.now caller.home path status) old new caller.thread result
