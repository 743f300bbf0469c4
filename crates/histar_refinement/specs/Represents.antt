-- The abstraction relation: when the state of a labelled kernel represents a flat state.
use Rattle.std.specs.Prelude.{◌≡◌, ◌≢◌, ℕ, ◌≤◌, ◌⊎◌, true, false, List, [], length, None, Some, is_some}
use Rattle.histar_flat.specs.Words.{Path, ProcName, greatest_status, most_children}
use Rattle.histar_flat.specs.Accounts.{Accounts, has, user_number}
use Rattle.histar_flat.specs.Files.{get}
use Rattle.histar_flat.specs.Classes.{Class, Process, nobody}
use Rattle.histar_flat.specs.Classes.Class.{Scratch}
use Rattle.histar_flat.specs.FlatState.{Node, Flat, is_dir_at, is_given}
use Rattle.histar_object.specs.State.{State}
use Rattle.histar_container.specs.Tree.{Address, Naming}
use Rattle.histar_rules.specs.Rules.{greatest}
use Rattle.histar_layout.specs.ClassLabels.{IsRisingFrom}
use Rattle.histar_layout.specs.Directory.{IsListable}
use Rattle.histar_programs.specs.Start.{boot_thread_number}
use Rattle.histar_refinement.specs.Categories.{CategoryName, Categories, AreDifferent, IsMade, boot_category, IsKnown, IsServed, IsUsed}
use Rattle.histar_refinement.specs.Labels.{class_guard}
use Rattle.histar_refinement.specs.NumberedClasses.{job_numbers}
use Rattle.histar_refinement.specs.Addresses.{Step, same_step, boot_number}
use Rattle.histar_refinement.specs.Agrees.{Agrees}
use Rattle.histar_refinement.specs.Directories.{directory_of}
use Rattle.histar_refinement.specs.Asked.{AsksFor}

-- jobs are in the order in which their categories were made, so that a set of categories determines the list of jobs
abbrev pub AreInOrder : Categories → List ProcName → Type 0
AreInOrder category jobs = IsRisingFrom 0 (job_numbers category jobs)

-- the jobs of a class are in order
abbrev pub IsInOrder : Categories → Class → Type 0
IsInOrder category (Scratch owner jobs) = AreInOrder category jobs
IsInOrder category class = Unit {0}

-- A process that can be represented: its user is declared, or is nobody, who is in no job and holds none; it holds no job that it is
-- in, its jobs are in order, and its counts are those that its segment has room for. Of one that has exited neither the user nor
-- the held jobs can be known, and nothing is said of them.
pub record IsProcess (accounts : Accounts) (category : Categories) (p : Process) : Type 0 where
  pub someone : p.exited ≡ None → (p.user ≡ nobody) ⊎ (is_some (user_number accounts p.user) ≡ true)
  pub free : p.exited ≡ None → is_some (user_number accounts p.user) ≡ false → (p.chain ≡ []) × (p.held ≡ [])
  pub apart : p.exited ≡ None → (job : ProcName) → has p.chain job ≡ true → has p.held job ≡ false
  pub chain : AreInOrder category p.chain
  pub held : p.exited ≡ None → AreInOrder category p.held
  pub few : p.born ≤ most_children
  pub status : (n : ℕ) → p.exited ≡ Some n → n ≤ greatest_status

-- A state of the kernel has the objects of a flat state, under a naming of its objects by addresses and a naming of its categories.
-- This holds also in the midst of a call that begins a job: there a directory is for a job whose first process was not yet born.
pub record ObjectsMatch (accounts : Accounts) (s : State) (f : Flat) : Type 0 where
  pub naming : Naming Step
  pub category : Categories
  -- each object has an address, links exactly what is one step below it, and is what the flat state asks for there: its
  -- label, its clearance and its bytes
  pub agrees : Agrees same_step s naming (AsksFor accounts category f naming.number)
  -- the numbers of objects are numbers of 64 bits
  pub numbered : s.next_object ≤ greatest
  -- what boot made for good has the numbers that boot gave
  pub as_booted : (a : Address Step) (q : ℕ) → boot_number (length accounts.users) a ≡ Some q → naming.number a ≡ Some q
  -- no two names of categories have one number; those that are used were made, and those of boot are the ones that boot made
  pub different : AreDifferent category
  pub made : (c : CategoryName) → IsUsed accounts f c → IsMade s.next_category (category c)
  pub as_made : (c : CategoryName) (q : ℕ) → boot_category accounts c ≡ Some q → category c ≡ q
  -- each file and directory is of a user or a group that is declared, and its jobs are in order
  pub guarded : (q : Path) (there : Node) → get f.files q ≡ Some there → class_guard accounts there.class ≢ None
  pub in_order : (q : Path) (there : Node) → get f.files q ≡ Some there → IsInOrder category there.class
  -- the entries of each directory are such that a directory segment can list them
  pub listable : (d : Path) → is_dir_at f d ≡ true → IsListable (directory_of f.files naming.number d)
  -- process 0 is there, and each process is one that can be represented
  pub first : is_some (f.processes []) ≡ true
  pub processes : (me : ProcName) (p : Process) → f.processes me ≡ Some p → IsProcess accounts category p
  -- the numbers in the names of processes were given to children that were born
  pub processes_given : (me : ProcName) → is_some (f.processes me) ≡ true → is_given f.processes me ≡ true
  -- the boot thread is gone for good
  pub boot_thread_gone : s.objects boot_thread_number ≡ None

-- the numbers in the names of jobs that some process knows, or some file or directory is for, were given to children that were born
abbrev pub AreJobsGiven : Flat → Type 0
AreJobsGiven f = (job : ProcName) → IsKnown f job ⊎ IsServed f job → is_given f.processes job ≡ true

-- a state of the kernel represents a flat state
pub record Represents (accounts : Accounts) (s : State) (f : Flat) : Type 0 where
  pub matched : ObjectsMatch accounts s f
  pub jobs_given : AreJobsGiven f
