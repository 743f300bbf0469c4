-- The labels of files, processes, threads and gates, by the names of their categories.
use Rattle.std.specs.Prelude.{ℕ, List, [], ◌∷◌, ◌++◌, map, Option, None, Some, option_map, if◌then◌else◌}
use Rattle.histar_flat.specs.Words.{Name, ProcName}
use Rattle.histar_flat.specs.Accounts.{Accounts, user_number, group_number, groups_of}
use Rattle.histar_flat.specs.Classes.{Class, Process, is_free}
use Rattle.histar_flat.specs.Classes.Class.{Private, Readable, Open, Scratch, Grouped}
use Rattle.histar_refinement.specs.Categories.{CategoryName}
use Rattle.histar_refinement.specs.Categories.CategoryName.{OfBoot, ReadsUser, WritesUser, ReadsGroup, WritesGroup, ReadsProcess, WritesProcess}
use Rattle.histar_refinement.specs.Categories.CategoryName.{OfJob}
use Rattle.histar_refinement.specs.Guards.{Guard, Rights}

-- the guard of what boot alone wrote: the root container and the user table
abbrev pub boot_guard : Guard
boot_guard = record { secret = []; written = OfBoot ∷ [] }

-- the guard of what is private to user i, for example the user's password
abbrev pub private_guard : ℕ → Guard
private_guard i = record { secret = ReadsUser i ∷ []; written = WritesUser i ∷ [] }

-- the guard of what everyone may read and user i may write
abbrev pub readable_guard : ℕ → Guard
readable_guard i = record { secret = []; written = WritesUser i ∷ [] }

-- the guard of what is for user i in these jobs
abbrev pub scratch_guard : List ProcName → ℕ → Guard
scratch_guard jobs i = record { secret = ReadsUser i ∷ map OfJob jobs; written = [] }

-- the guard of what is for the members of group k
abbrev pub group_guard : ℕ → Guard
group_guard k = record { secret = ReadsGroup k ∷ []; written = WritesGroup k ∷ [] }

-- the guard of what everyone may read and write
abbrev pub open_guard : Guard
open_guard = record { secret = []; written = [] }

-- the guard of what is of a class; there is none where no user or group has the name
abbrev pub class_guard : Accounts → Class → Option Guard
class_guard accounts (Private owner) = option_map private_guard (user_number accounts owner)
class_guard accounts (Readable owner) = option_map readable_guard (user_number accounts owner)
class_guard accounts Open = Some open_guard
class_guard accounts (Scratch owner jobs) = option_map (scratch_guard jobs) (user_number accounts owner)
class_guard accounts (Grouped group) = option_map group_guard (group_number accounts group)

-- a process's container and its process segment are written by the process alone, and are secret to its jobs
abbrev pub process_guard : ProcName → Process → Guard
process_guard me p = record { secret = map OfJob p.chain; written = WritesProcess me ∷ [] }

-- a process's internal container is secret to the process too
abbrev pub inside_guard : ProcName → Process → Guard
inside_guard me p = record { secret = ReadsProcess me ∷ map OfJob p.chain; written = WritesProcess me ∷ [] }

-- the categories by which user i reads: its own and those of its groups
abbrev pub reading : Accounts → Name → ℕ → List CategoryName
reading accounts name i = ReadsUser i ∷ map ReadsGroup (groups_of accounts name)

-- the categories by which user i writes: its own and those of its groups
abbrev pub writing : Accounts → Name → ℕ → List CategoryName
writing accounts name i = WritesUser i ∷ map WritesGroup (groups_of accounts name)

-- what a process owns as its user, by the user's number: nothing as nobody, and in a job only the categories by which the user reads
abbrev pub owned_as : Accounts → Process → Option ℕ → List CategoryName
owned_as accounts p None = []
owned_as accounts p (Some i) = reading accounts p.user i ++ (if is_free p then writing accounts p.user i else [])

-- the rights of the thread of a process: it owns its own two categories, those of its user, and the jobs that it holds, and has
-- the categories of its jobs at 3
abbrev pub thread_rights : Accounts → ProcName → Process → Rights
thread_rights accounts me p = record {
  owned = ReadsProcess me ∷ WritesProcess me ∷ owned_as accounts p (user_number accounts p.user) ++ map OfJob p.held;
  tainted = map OfJob p.chain;
}

-- the rights that the gate of user i gives
abbrev pub gate_rights : Accounts → Name → ℕ → Rights
gate_rights accounts name i = record { owned = reading accounts name i ++ writing accounts name i; tainted = [] }
