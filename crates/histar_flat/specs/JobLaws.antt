-- What a job may do: its processes change nothing outside its scratch directories, and read there what their user may read.
use Rattle.std.specs.Prelude.{◌≡◌, ◌⊎◌, Bool, true, false, ◌||◌, List, [], ◌∷◌, ◌++◌, Some, None}
use Rattle.std.specs.List.{list_all}
use Rattle.histar_flat.specs.declared.calls.CallLine.{CallLine}
use Rattle.histar_flat.specs.declared.calls.UnixCall.{UnixCall}
use Rattle.histar_flat.specs.declared.calls.UnixCall.TheVariants.{Read, Wrap}
use Rattle.histar_flat.specs.declared.replies.Reply.TheVariants.{Child}
use Rattle.histar_flat.specs.Words.{Path, ProcName}
use Rattle.histar_flat.specs.PathOrder.{under_path, under_process}
use Rattle.histar_flat.specs.Accounts.{Accounts, has}
use Rattle.histar_flat.specs.Files.{get}
use Rattle.histar_flat.specs.Classes.{Class, Process, carries}
use Rattle.histar_flat.specs.Classes.Class.{Scratch}
use Rattle.histar_flat.specs.FlatState.{Flat, IsTree, is_some_and, with_process}
use Rattle.histar_flat.specs.FlatCalls.{running, reply_to, flat_after}
use Rattle.histar_flat.specs.Meaning.{boot, flat_end}

-- A path lies in a scratch directory of the job if what is there, or at a directory above it, is of the job.
abbrev pub lies_in_scratch : Flat → ProcName → Path → Bool
lies_in_scratch f job [] = is_some_and (get f.files []) (λ n. carries job n.class)
lies_in_scratch f job (n ∷ d) = is_some_and (get f.files (n ∷ d)) (λ n. carries job n.class) || lies_in_scratch f job d

-- the process runs, and is in the job
abbrev pub runs_in : Flat → ProcName → ProcName → Bool
runs_in f me job = is_some_and (running f me) (λ p. has p.chain job)

-- each of these calls, one after another, is of a process that is in the job, or of one that doesn't run
abbrev pub AreOfJob : Accounts → ProcName → Flat → List CallLine → Type 0
AreOfJob accounts job f [] = Unit {0}
AreOfJob accounts job f (c ∷ calls) = ((running f c.process ≡ None) ⊎ (runs_in f c.process job ≡ true)) × AreOfJob accounts job (flat_after accounts f c.process c.call) calls

-- whatever the processes of a job call, each path that doesn't lie in a scratch directory of the job is as it was
abbrev pub JobsStayInside : Type 0
JobsStayInside = (accounts : Accounts) (f : Flat) → IsTree f → (job : ProcName) (calls : List CallLine) → AreOfJob accounts job f calls
    → (q : Path) → lies_in_scratch f job q ≡ false → get (flat_end accounts f calls).files q ≡ get f.files q

-- each of these calls is of the process of this name, or of one below it
abbrev pub all_under : ProcName → List CallLine → Bool
all_under name calls = list_all (λ (c : CallLine). under_process name c.process) calls

-- After any calls, take a wrap of a path that is answered with the name of its job, and then any calls of the job's processes: they leave
-- each path as it was but the path itself and those below it.
abbrev pub WrappedJobsStayInside : Type 0
WrappedJobsStayInside = (accounts : Accounts) (before : List CallLine) (wrap : CallLine) (path : Path) (job : ProcName) (calls : List CallLine) → wrap.call ≡ Wrap path
    → reply_to accounts (flat_end accounts (boot accounts) before) wrap.process (Wrap path) ≡ Child job → all_under job calls ≡ true
    → (q : Path) → under_path path q ≡ false → get (flat_end accounts (boot accounts) (before ++ wrap ∷ calls)).files q ≡ get (flat_end accounts (boot accounts) before).files q

-- a call of a process changes no process but itself and those below it
abbrev pub CallsChangeTheirOwnTree : Type 0
CallsChangeTheirOwnTree = (accounts : Accounts) (f : Flat) (me : ProcName) (call : UnixCall) (other : ProcName) → under_process me other ≡ false
    → (flat_after accounts f me call).processes other ≡ f.processes other

-- a file of this class is of jobs
abbrev pub is_scratch : Class → Bool
is_scratch (Scratch owner jobs) = true
is_scratch _ = false

-- what is at the path, or at a directory above it, is of some job
abbrev pub lies_in_some_scratch : Flat → Path → Bool
lies_in_some_scratch f [] = is_some_and (get f.files []) (λ n. is_scratch n.class)
lies_in_some_scratch f (n ∷ d) = is_some_and (get f.files (n ∷ d)) (λ n. is_scratch n.class) || lies_in_some_scratch f d

-- a process of the same user that is in no job and holds none
abbrev pub out_of_jobs : Process → Process
out_of_jobs p = record p { chain = []; held = [] }

-- outside all scratch directories a process in jobs gets the reply that it would get in no job
abbrev pub JobsReadAsTheirUser : Type 0
JobsReadAsTheirUser = (accounts : Accounts) (f : Flat) (me : ProcName) (p : Process) (q : Path) → running f me ≡ Some p → lies_in_some_scratch f q ≡ false
    → reply_to accounts f me (Read q) ≡ reply_to accounts (with_process f me (out_of_jobs p)) me (Read q)
