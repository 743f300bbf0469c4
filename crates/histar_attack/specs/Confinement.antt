-- Whether a line of an attack may be made, and the category of a job, by the labels of a state.
use Rattle.std.specs.Prelude.{◌≡◌, ◌≢◌, ℕ, Bool, true, false, not, ◌&&◌, [], ◌∷◌, length, Option, None, Some}
use Rattle.std.specs.Prelude.{MatchOption}
use Rattle.histar_flat.specs.Words.{ProcName}
use Rattle.histar_flat.specs.Accounts.{Accounts, has}
use Rattle.histar_flat.specs.Classes.{Process}
use Rattle.histar_flat.specs.FlatState.{Flat}
use Rattle.histar_secrecy.specs.Noninterference.{IsReached}
use Rattle.histar_level.specs.declared.level.Level.TheVariants.{Star, L3}
use Rattle.histar_level.specs.Level.{is_star}
use Rattle.histar_level.specs.Levels.{Levels, level_of}
use Rattle.histar_object.specs.declared.objects.Object.{Object}
use Rattle.histar_object.specs.Objects.{label_there}
use Rattle.histar_object.specs.State.{State}
use Rattle.histar_layout.specs.Jobs.{is_three}
use Rattle.histar_layout.specs.Reading.{◌>>=◌}
use Rattle.histar_layout.specs.Status.{ProcessStatus}
use Rattle.histar_programs.specs.declared.roots.Home.{Home}
use Rattle.histar_programs.specs.declared.caller.Caller.{Caller}
use Rattle.histar_programs.specs.Caller.{caller_at, caller_in, home_at, read_category_in, status_at}
use Rattle.histar_programs.specs.Start.{roots_of}
use Rattle.histar_refinement.specs.Categories.CategoryName.{OfJob}
use Rattle.histar_refinement.specs.Represents.{Represents}
use Rattle.histar_outside.specs.Search.{IsClear}

-- the test says whether this is so
abbrev pub Decides : Bool → Type 0 → Type 0
Decides true P = P
Decides false P = P → ⊥

-- the internal container of the process that is found at a place, if it runs, is not tainted
abbrev pub IsClearInside : State → ℕ → Home → Type 0
IsClearInside s v home = (status : ProcessStatus) → status_at s home.segment ≡ Some status → status.exited ≡ None
    → IsClear s v status.internal

-- the thread of the process that is found at a place, if it runs, neither is tainted nor owns v
abbrev pub IsFreeThread : State → ℕ → Home → Type 0
IsFreeThread s v home = (caller : Caller) (o : Object Levels) → caller_in s home ≡ Some caller
    → s.objects caller.thread ≡ Some o → (level_of o.label v ≢ L3) × (level_of o.label v ≢ Star)

-- the label neither is tainted in v nor owns v
abbrev pub is_free : Levels → ℕ → Bool
is_free own v = not (is_three (level_of own v)) && not (is_star (level_of own v))

-- The category of the job whose first process has this name, if that runs: the first that the label of its container
-- has at 3 and that of the process above hasn't. Process 0 is no process of a job.
abbrev pub job_category : State → Home → ProcName → Option ℕ
job_category s first [] = None
job_category s first (n ∷ above) = do
  caller ← caller_at s first (n ∷ above)
  parent ← home_at s first above
  outer ← label_there (s.objects parent.container)
  inner ← label_there (s.objects caller.home.container)
  read_category_in outer inner

-- the process of this name runs, and is the first one of a job of its own
abbrev pub RunsJob : Flat → ProcName → Type 0
RunsJob f job = (p : Process) × (f.processes job ≡ Some p) × (p.exited ≡ None) × (has p.chain job ≡ true)

-- In a state that represents a flat state to which calls lead, a job has a category exactly if its first process runs,
-- and then it is the job's by each naming.
abbrev pub JobsHaveTheirCategories : Type 0
JobsHaveTheirCategories = (accounts : Accounts) (s : State) (f : Flat) (rep : Represents accounts s f) (job : ProcName)
    → IsReached accounts f
    → MatchOption (job_category s (roots_of (length accounts.users)).home job) (RunsJob f job → ⊥)
    (λ v. RunsJob f job × (rep.matched.category (OfJob job) ≡ v))
