-- Computed roles: the role of each process and user towards a file, and which are changers. Jobs are known by numbers.
use Rattle.std.specs.Prelude.{◌≡◌, ℕ, Bool, true, false, ◌&&◌, ◌||◌, List, [], ◌∷◌, ◌++◌, None, Option, Some, map, if◌then◌else◌}
use Rattle.std.specs.List.{list_all}
use Rattle.histar_flat.specs.Words.{Name, Path, ProcName}
use Rattle.histar_flat.specs.Accounts.{Group, Accounts}
use Rattle.histar_flat.specs.Files.{get}
use Rattle.histar_flat.specs.Classes.{Class, Process, may_read, may_write}
use Rattle.histar_flat.specs.Classes.Class.{Private, Readable, Open, Scratch, Grouped}
use Rattle.histar_flat.specs.FlatState.{Flat, Node}
use Rattle.histar_flat.specs.FlatCalls.{running}
use Rattle.histar_secrecy.specs.declared.file_class.FileClass.{FileClass}
use Rattle.histar_secrecy.specs.declared.file_class.FileClass.TheVariants as classes
use Rattle.histar_secrecy.specs.declared.role.Member.{Member}
use Rattle.histar_secrecy.specs.declared.role.Role.{Role}
use Rattle.histar_secrecy.specs.declared.role.Role.TheVariants.{Trusted, Confined, Outside}
use Rattle.histar_secrecy.specs.Logins.{logged_in}
use Rattle.histar_secrecy.specs.Ways.{reads_all, reaches, way_to}
use Rattle.histar_secrecy.specs.Roles.{is_bound, is_confined, is_trusted}
use Rattle.histar_secrecy.specs.Noninterference.{IsReached}
use Rattle.histar_secrecy.specs.Changers.{is_changer, may_change}

-- accounts with these groups: what a process may read and write depends on nothing else that is declared
abbrev pub of_groups : List Group → Accounts
of_groups groups = record { users = []; groups = groups }

-- a job that is known by its number
abbrev pub job_numbered : ℕ → ProcName
job_numbered number = number ∷ []

-- a process that runs, of this user, in the jobs of these numbers, and holding the jobs of those
abbrev pub with_rights : Name → List ℕ → List ℕ → Process
with_rights user jobs held = record { user = user; chain = map job_numbered jobs; held = map job_numbered held; exited = None; born = 0 }

-- the class in the flat rules, with each job by its number
abbrev pub flat_class : FileClass → Class
flat_class (classes.Private owner) = Private owner
flat_class (classes.Readable owner) = Readable owner
flat_class classes.Open = Open
flat_class (classes.Scratch owner jobs) = Scratch owner (map job_numbered jobs.items)
flat_class (classes.Grouped group) = Grouped group

-- the process may read each of these classes
abbrev pub reads_each : List Group → Process → List FileClass → Bool
reads_each groups p classes = list_all (λ class. may_read (of_groups groups) p (flat_class class)) classes

-- the role of a running process towards a file with this way
abbrev pub role_of : List Group → List Class → Process → Role
role_of groups way p =
    if reads_all (of_groups groups) way p then (if is_bound (of_groups groups) way p then Confined else Trusted) else Outside

-- the role of a process that is shown
abbrev pub member_role : List Group → List Class → Member → Role
member_role groups way m = role_of groups way (with_rights m.user m.jobs.items m.held.items)

-- two roles are the same
abbrev pub is_same_role : Role → Role → Bool
is_same_role Trusted Trusted = true
is_same_role Confined Confined = true
is_same_role Outside Outside = true
is_same_role one other = false

-- the process that is shown has this role
abbrev pub has_role : List Group → List Class → Role → Member → Bool
has_role groups way role m = is_same_role role (member_role groups way m)

-- the same, by the classes of the file and of the directories above it
unfoldable pub has_shown_role : List Group → List FileClass → Role → Member → Bool
has_shown_role groups classes role m = has_role groups (map flat_class classes) role m

-- a process that is shown, with its user
abbrev pub with_user : Member → ProcName × Name
with_user m = (m.name, m.user)

-- a process that logs in as this user may read all of the way
abbrev pub is_login_reader : List Group → List Class → Name → Bool
is_login_reader groups way user = reads_all (of_groups groups) way (logged_in user)

-- the process may write one of these classes, and read each behind it
abbrev pub changes_one : List Group → Process → List FileClass → Bool
changes_one groups p [] = false
changes_one groups p (class ∷ above) =
    (may_write (of_groups groups) p (flat_class class) && reads_all (of_groups groups) (map flat_class above) p) || changes_one groups p above

-- the process that is shown may write one of these classes
abbrev pub is_shown_changer : List Group → List FileClass → Member → Bool
is_shown_changer groups classes m = changes_one groups (with_rights m.user m.jobs.items m.held.items) classes

-- a process that logs in as this user may write one of these classes
abbrev pub is_login_changer : List Group → List FileClass → Name → Bool
is_login_changer groups classes user = changes_one groups (logged_in user) classes

-- the role of the process of this name in a state, towards a file with this way
abbrev pub role_in : Accounts → List Class → Flat → ProcName → Role
role_in accounts way f me = if is_trusted accounts way f me then Trusted else if is_confined accounts way f me then Confined else Outside

-- no two jobs have the same number
abbrev pub AreNumbered : (ProcName → ℕ) → Type 0
AreNumbered number = (a b : ProcName) → number a ≡ number b → a ≡ b

module _ (number : ProcName → ℕ) where
  -- these jobs, known by their numbers
  abbrev pub jobs_by_number : List ProcName → List ProcName
  jobs_by_number jobs = map (λ job. job_numbered (number job)) jobs

  -- the class, with its jobs known by their numbers
  abbrev pub class_by_number : Class → Class
  class_by_number (Scratch owner jobs) = Scratch owner (jobs_by_number jobs)
  class_by_number class = class

  -- the class of the node, if there is one
  abbrev pub class_on : Option Node → List Class
  class_on None = []
  class_on (Some n) = class_by_number n.class ∷ []

  -- the classes of what is at the path, and of each directory above it, of all of these that are there
  abbrev pub classes_on : Flat → Path → List Class
  classes_on f [] = class_on (get f.files [])
  classes_on f (n ∷ d) = class_on (get f.files (n ∷ d)) ++ classes_on f d

  -- the process that is shown is this one of the state
  pub record IsShownProcess (f : Flat) (m : Member) (p : Process) : Type 0 where
    pub runs : running f m.name ≡ Some p
    pub user : p.user ≡ m.user
    pub jobs : map number p.chain ≡ m.jobs.items
    pub held : map number p.held ≡ m.held.items

  -- What is shown is that of the state: the role of each running process towards a file, if calls lead to the state, and whether it is a
  -- changer of what is at a path; and for each user, whether a login makes a reader or a changer.
  pub record ShowsAState (accounts : Accounts) (f : Flat) : Type 0 where
    pub role : IsReached accounts f → (path : Path) (m : Member) (p : Process) → IsShownProcess f m p
        → member_role accounts.groups (classes_on f path) m ≡ role_in accounts (way_to f path) f m.name
    pub changer : (path : Path) (classes : List FileClass) → map flat_class classes ≡ classes_on f path
        → (m : Member) (p : Process) → IsShownProcess f m p
        → is_shown_changer accounts.groups classes m ≡ is_changer accounts f path m.name
    pub reader_login : (path : Path) (user : Name)
        → is_login_reader accounts.groups (classes_on f path) user ≡ reaches accounts f (logged_in user) path
    pub changer_login : (path : Path) (classes : List FileClass) → map flat_class classes ≡ classes_on f path
        → (user : Name) → is_login_changer accounts.groups classes user ≡ may_change accounts f (logged_in user) path

-- What is shown is that of each state, however the jobs are numbered.
abbrev pub ShownIsSo : Type 0
ShownIsSo = (accounts : Accounts) (f : Flat) (number : ProcName → ℕ) → AreNumbered number → ShowsAState number accounts f
