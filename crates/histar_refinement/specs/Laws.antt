-- What follows when a state represents a flat state: who observes and modifies what, what is reached and found, that there is at most
-- one such flat state, what is lent with no raw call, and the start.
use Rattle.std.specs.Prelude.{◌≡◌, ℕ, ◌<◌, ◌≤◌, ◌⊎◌, ◌↔◌, true, [], ◌∷◌, length, Option, None, Some, is_some}
use Rattle.histar_flat.specs.Words.{Path, ProcName}
use Rattle.histar_flat.specs.Accounts.{Accounts}
use Rattle.histar_flat.specs.Files.{get}
use Rattle.histar_flat.specs.Classes.{Process, may_read, may_write}
use Rattle.histar_flat.specs.FlatState.{Node, Flat, is_dir_at}
use Rattle.histar_flat.specs.FlatCalls.{running}
use Rattle.histar_flat.specs.Meaning.{boot}
use Rattle.histar_object.specs.Objects.{is_present}
use Rattle.histar_object.specs.State.{State, observes, modifies}
use Rattle.histar_container.specs.Tree.{Reached}
use Rattle.histar_rules.specs.Rules.{greatest}
use Rattle.histar_rules.specs.Sound.{root_number}
use Rattle.histar_syscall.specs.KernelModel.{lent_bytes}
use Rattle.histar_programs.specs.declared.caller.Caller.{Caller}
use Rattle.histar_programs.specs.Caller.{caller_at}
use Rattle.histar_programs.specs.Start.{roots_of, start_state}
use Rattle.histar_refinement.specs.Accounts.{AreAccounts}
use Rattle.histar_refinement.specs.Categories.{CategoryName}
use Rattle.histar_refinement.specs.Categories.CategoryName.{ReadsProcess, WritesProcess}
use Rattle.histar_refinement.specs.Addresses.{address_of, home_address, first_left, table_number}
use Rattle.histar_refinement.specs.Addresses.Step.{Listing, Status, Inside, Runner}
use Rattle.histar_refinement.specs.Represents.{ObjectsMatch, Represents}
use Rattle.histar_refinement.specs.Lines.{IsThreadOf, IsDirectoryAt}

module _ (accounts : Accounts) (s : State) (f : Flat) (l : ObjectsMatch accounts s f) where
  -- the object is the one at the path, or the directory segment of the directory there
  abbrev pub StandsFor : Path → ℕ → Type 0
  StandsFor q o = (l.naming.number (address_of q) ≡ Some o) ⊎ (l.naming.number (Listing ∷ address_of q) ≡ Some o)

  -- the thread is that of the process, which runs
  abbrev pub RunsAs : ProcName → Process → ℕ → Type 0
  RunsAs me p t = (f.processes me ≡ Some p) × (p.exited ≡ None) × (l.naming.number (Runner ∷ Inside ∷ home_address me) ≡ Some t)

-- a thread may observe what is of a class exactly where its process may read it
abbrev pub ThreadsObserveWhatIsRead : Type 0
ThreadsObserveWhatIsRead = (accounts : Accounts) (s : State) (f : Flat) (l : ObjectsMatch accounts s f) → AreAccounts accounts
    → (me : ProcName) (p : Process) (t : ℕ) → RunsAs accounts s f l me p t
    → (q : Path) (there : Node) (o : ℕ) → get f.files q ≡ Some there → StandsFor accounts s f l q o
    → observes (s.objects t) (s.objects o) ≡ may_read accounts p there.class

-- a thread may modify what is of a class exactly where its process may write it
abbrev pub ThreadsModifyWhatIsWritten : Type 0
ThreadsModifyWhatIsWritten = (accounts : Accounts) (s : State) (f : Flat) (l : ObjectsMatch accounts s f) → AreAccounts accounts
    → (me : ProcName) (p : Process) (t : ℕ) → RunsAs accounts s f l me p t
    → (q : Path) (there : Node) (o : ℕ) → get f.files q ≡ Some there → StandsFor accounts s f l q o
    → modifies (s.objects t) (s.objects o) ≡ may_write accounts p there.class

-- each object of the state is reached from the root container by links
abbrev pub ObjectsAreReached : Type 0
ObjectsAreReached = (accounts : Accounts) (s : State) (f : Flat) → Represents accounts s f → (q : ℕ) → is_present (s.objects q) ≡ true → Reached s.objects root_number q

-- Two processes are the same; or both have exited with the same number, were in the same jobs and had as many children, and
-- nothing is said of their users and of the jobs that they held.
abbrev pub AreAlike : Option Process → Option Process → Type 0
AreAlike None None = Unit {0}
AreAlike None (Some q) = ⊥
AreAlike (Some p) None = ⊥
AreAlike (Some p) (Some q) = (p.exited ≡ q.exited) × (p.born ≡ q.born) × (p.chain ≡ q.chain) × (p.exited ≡ None → (p.user ≡ q.user) × (p.held ≡ q.held))

-- For one naming of its categories a state represents at most one flat state: the same files and directories of the same classes with
-- the same bytes, and the same processes, but for the users and the held jobs of those that have exited.
abbrev pub OneIsRepresented : Type 0
OneIsRepresented = (accounts : Accounts) (s : State) (f g : Flat) (l : Represents accounts s f) (m : Represents accounts s g) → ((c : CategoryName) → l.matched.category c ≡ m.matched.category c)
    → ((q : Path) → get f.files q ≡ get g.files q) × ((me : ProcName) → AreAlike (f.processes me) (g.processes me))

-- the thread that the process segments lead to is that of the process, which runs
abbrev pub ThreadsAreFound : Type 0
ThreadsAreFound = (accounts : Accounts) (s : State) (f : Flat) (l : ObjectsMatch accounts s f) (me : ProcName) (t : ℕ) → IsThreadOf accounts s me t ↔ ((p : Process) × RunsAs accounts s f l me p t)

-- A process that runs, as it is found: its container and its process segment, its thread, and the numbers of its own two categories.
pub record IsCallerOf (accounts : Accounts) (s : State) (f : Flat) (l : ObjectsMatch accounts s f) (me : ProcName) (p : Process) (caller : Caller) : Type 0 where
  pub runs : RunsAs accounts s f l me p caller.thread
  pub home : l.naming.number (home_address me) ≡ Some caller.home.container
  pub segment : l.naming.number (Status ∷ home_address me) ≡ Some caller.home.segment
  pub reads : l.category (ReadsProcess me) ≡ caller.read
  pub writes : l.category (WritesProcess me) ≡ caller.write

-- the processes that are found from where boot left process 0 are exactly those that run
abbrev pub CallersAreFound : Type 0
CallersAreFound = (accounts : Accounts) (s : State) (f : Flat) (l : ObjectsMatch accounts s f) (me : ProcName) (caller : Caller)
    → (caller_at s (roots_of (length accounts.users)).home me ≡ Some caller) ↔ ((p : Process) × IsCallerOf accounts s f l me p caller)

-- each process that runs is found
abbrev pub CallersAreThere : Type 0
CallersAreThere = (accounts : Accounts) (s : State) (f : Flat) → ObjectsMatch accounts s f → (me : ProcName) → is_some (caller_at s (roots_of (length accounts.users)).home me) ≡ is_some (running f me)

-- the objects that the directory segments lead to are those of the directory at the path
abbrev pub DirectoriesAreFound : Type 0
DirectoriesAreFound = (accounts : Accounts) (s : State) (f : Flat) (l : ObjectsMatch accounts s f) (d : Path) (container listing : ℕ)
    → IsDirectoryAt accounts s d container listing ↔ ((is_dir_at f d ≡ true) × (l.naming.number (address_of d) ≡ Some container) × (l.naming.number (Listing ∷ address_of d) ≡ Some listing))

-- the state in which a machine starts represents the flat state at the start, where some users are declared and the objects of boot
-- have numbers
abbrev pub StartIsRepresented : Type 0
StartIsRepresented = (accounts : Accounts) → 0 < length accounts.users → AreAccounts accounts → (start_state accounts).next_object ≤ greatest
    → Represents accounts (start_state accounts) (boot accounts)

-- Who holds the kernel of a state that represents a flat state is lent nothing of what boot left in the root container: no password, and not
-- the user table.
abbrev pub NoPasswordIsLent : Type 0
NoPasswordIsLent = (accounts : Accounts) (s : State) (f : Flat) → Represents accounts s f
    → (q : ℕ) → first_left ≤ q → q ≤ table_number (length accounts.users) → lent_bytes s q ≡ []
