-- The names of objects and categories are right in a state that represents a flat state.
use Rattle.std.specs.Prelude.{◌≡◌, ℕ, ◌-◌, ◌+◌, ◌*◌, ◌≤◌, ◌⊎◌, true, false, ◌∷◌}
use Rattle.std.specs.Prelude.{[], length, nat_le, is_some, List, Some, option_map, if◌then◌else◌}
use Rattle.histar_flat.specs.Words.{Path, ProcName}
use Rattle.histar_flat.specs.Accounts.{Accounts, has}
use Rattle.histar_flat.specs.Classes.{Process}
use Rattle.histar_flat.specs.declared.calls.UnixCall.{UnixCall}
use Rattle.histar_flat.specs.Files.{get}
use Rattle.histar_flat.specs.FlatState.{Flat, IsTree, is_dir_at}
use Rattle.histar_flat.specs.FlatCalls.{flat_after, running}
use Rattle.histar_object.specs.State.{State}
use Rattle.histar_layout.specs.UserTable.{without_passwords}
use Rattle.histar_programs.specs.Start.{roots_of}
use Rattle.histar_refinement.specs.Addresses.{address_of, home_address, table_number}
use Rattle.histar_refinement.specs.Addresses.Step.{Left, Listing, Status, Inside, Runner}
use Rattle.histar_refinement.specs.Categories.{CategoryName, CategoryName as names, IsUsed}
use Rattle.histar_refinement.specs.Represents.{ObjectsMatch, Represents}
use Rattle.histar_refinement.specs.KeptNames.{RepresentsStill}
use Rattle.histar_refinement.specs.Laws.{StandsFor}
use Rattle.histar_names.specs.Births.{Births, births_after, purpose_of}
use Rattle.histar_names.specs.KnownBirths.{NamesBirths, purpose_named}
use Rattle.histar_names.specs.declared.clues.Clue.{Clue}
use Rattle.histar_names.specs.declared.purposes.Purpose.{Purpose}
use Rattle.histar_names.specs.declared.purposes.Purpose.TheVariants.{Boot, Reads, Writes, ReadsProcess, WritesProcess, Job}
use Rattle.histar_names.specs.declared.location.Location.{Location}
use Rattle.histar_names.specs.declared.location.Location.TheVariants.{Root, Password, Gate, Users, At, Part}
use Rattle.histar_names.specs.Location.{location_of}
use Rattle.histar_names.specs.Runners.{user_at}

-- ---- categories

-- the category by which nobody, a user or a group reads: nobody is number 0, then come the users, then the groups
abbrev pub reads_of : Accounts → ℕ → CategoryName
reads_of accounts i = if nat_le i (length accounts.users) then names.ReadsUser i else names.ReadsGroup (i - length accounts.users)

-- the category by which nobody, a user or a group writes
abbrev pub writes_of : Accounts → ℕ → CategoryName
writes_of accounts i = if nat_le i (length accounts.users) then names.WritesUser i else names.WritesGroup (i - length accounts.users)

-- a process is in a job, and the one above it isn't
pub record BeginsJob (f : Flat) (job : ProcName) (n : ℕ) (above : ProcName) : Type 0 where
  pub process : Process
  pub there : f.processes (n ∷ above) ≡ Some process
  pub inside : has process.chain job ≡ true
  pub outside : (parent : Process) → f.processes above ≡ Some parent → has parent.chain job ≡ false

-- this is the purpose of the category of this name: a job's is given by a process that is in it and whose parent isn't
abbrev pub IsPurposeOf : Accounts → Flat → CategoryName → Purpose → Type 0
IsPurposeOf accounts f name Boot = name ≡ names.OfBoot
IsPurposeOf accounts f name (Reads i) = name ≡ reads_of accounts i
IsPurposeOf accounts f name (Writes i) = name ≡ writes_of accounts i
IsPurposeOf accounts f name (ReadsProcess me) = name ≡ names.ReadsProcess me
IsPurposeOf accounts f name (WritesProcess me) = name ≡ names.WritesProcess me
IsPurposeOf accounts f name (Job me) = (job : ProcName) × (n : ℕ) × (above : ProcName) × (me ≡ n ∷ above) × (name ≡ names.OfJob job) × BeginsJob f job n above

-- Under each naming by which the state represents the flat state, a category that is new, and of which the next births note a purpose, has
-- a name that is used, and this purpose; and so has one of boot.
abbrev pub PurposesAreRight : Type 0
PurposesAreRight =
    (accounts : Accounts) (s : State) (f : Flat) (l : ObjectsMatch accounts s f) (me : ProcName) (births : Births) (c : ℕ) (purpose : Purpose)
    → length births ≤ c
    → purpose_of (without_passwords accounts) (births_after s (roots_of (length accounts.users)) me births) c ≡ Some purpose
    → (name : CategoryName) × (l.category name ≡ c) × IsUsed accounts f name × IsPurposeOf accounts f name purpose

-- Where what was noted is right, each category that is used is named as what it is for.
abbrev pub CategoriesAreNamed : Type 0
CategoriesAreNamed =
    (births : Births) (accounts : Accounts) (s : State) (f : Flat) (known : NamesBirths births accounts s f) (name : CategoryName)
    → IsUsed accounts f name
    → purpose_of (without_passwords accounts) births (known.represents.matched.category name) ≡ Some (purpose_named accounts name)

-- At the start what was noted is right, and where it is before a line, it is after it, under names that keep their numbers.
abbrev pub BirthsAreKept : Type 0
BirthsAreKept =
    (births : Births) (accounts : Accounts) (s t : State) (f : Flat) → IsTree f → (known : NamesBirths births accounts s f)
    → (me : ProcName) (call : UnixCall) → (still : RepresentsStill known.represents t (flat_after accounts f me call))
    → s.next_category ≤ t.next_category
    → (later : NamesBirths (births_after t (roots_of (length accounts.users)) me births) accounts t (flat_after accounts f me call))
    × (later.represents ≡ still.represents)

-- ---- objects

module _ (accounts : Accounts) (s : State) (f : Flat) (l : ObjectsMatch accounts s f) where
  -- what boot left in the root container under this number
  abbrev pub IsLeft : ℕ → Type 0
  IsLeft q = l.naming.number (Left q ∷ []) ≡ Some q

  -- a part of a process has this number
  abbrev pub IsPartOf : ProcName → ℕ → Type 0
  IsPartOf me q =
      ((l.naming.number (home_address me) ≡ Some q) ⊎ (l.naming.number (Status ∷ home_address me) ≡ Some q))
      ⊎ ((l.naming.number (Inside ∷ home_address me) ≡ Some q) ⊎ (l.naming.number (Runner ∷ Inside ∷ home_address me) ≡ Some q))

  -- the object of this number is at this location: boot left the password and the gate of user i under 1 + 2i and 2 + 2i
  abbrev pub StandsAs : ℕ → Location → Type 0
  StandsAs q Root = l.naming.number [] ≡ Some q
  StandsAs q (Password i) = IsLeft q × (q ≡ 1 + 2 * i) × (1 ≤ i) × (i ≤ length accounts.users)
  StandsAs q (Gate i) = IsLeft q × (q ≡ 2 + 2 * i) × (1 ≤ i) × (i ≤ length accounts.users)
  StandsAs q Users = IsLeft q × (q ≡ table_number (length accounts.users))
  StandsAs q (At path) = StandsFor accounts s f l path q
  StandsAs q (Part me) = IsPartOf me q

-- Under each naming by which the state represents the flat state, an object's location is that of the address that has its number.
abbrev pub LocationsAreRight : Type 0
LocationsAreRight =
    (accounts : Accounts) (s : State) (f : Flat) (l : ObjectsMatch accounts s f) (clue : Clue) (q : ℕ) (location : Location)
    → location_of (without_passwords accounts) (roots_of (length accounts.users)) s clue q ≡ Some location
    → StandsAs accounts s f l q location

-- the first of two names or paths is the second, or above it
abbrev pub IsAtOrAbove : {A : Type 0} → List A → List A → Type 0
IsAtOrAbove above [] = above ≡ []
IsAtOrAbove above (n ∷ q) = (above ≡ n ∷ q) ⊎ IsAtOrAbove above q

-- ---- what a line names

module _ (accounts : Accounts) (s : State) (f : Flat) (l : ObjectsMatch accounts s f) where
  -- the object is what is at the path, or the directory segment of a directory there
  abbrev pub IsThere : Path → ℕ → Type 0
  IsThere path q =
      ((is_some (get f.files path) ≡ true) × (l.naming.number (address_of path) ≡ Some q))
      ⊎ ((is_dir_at f path ≡ true) × (l.naming.number (Listing ∷ address_of path) ≡ Some q))

  -- The object is there at the path of a line or above it; or it is a part of the process of the line, of the one that its call
  -- names, or of one above either; or it is the root container.
  abbrev pub IsOfLine : Clue → ℕ → Type 0
  IsOfLine clue q =
      (((path : Path) × IsAtOrAbove path clue.path × IsThere path q)
      ⊎ ((me : ProcName) × (IsAtOrAbove me clue.caller ⊎ IsAtOrAbove me clue.named) × IsPartOf accounts s f l me q))
      ⊎ (l.naming.number [] ≡ Some q)

-- An object of what a line names has a location.
abbrev pub LocationsAreComplete : Type 0
LocationsAreComplete =
    (accounts : Accounts) (s : State) (f : Flat) (represents : Represents accounts s f) (clue : Clue) (q : ℕ)
    → IsOfLine accounts s f represents.matched clue q
    → (location : Location) × (location_of (without_passwords accounts) (roots_of (length accounts.users)) s clue q ≡ Some location)

-- ---- processes

-- The user given for a process is that of the flat state: there is one exactly if the process runs.
abbrev pub UsersAreRight : Type 0
UsersAreRight =
    (accounts : Accounts) (s : State) (f : Flat) → ObjectsMatch accounts s f → (me : ProcName)
    → user_at (without_passwords accounts) s (roots_of (length accounts.users)).home me ≡ option_map (λ (p : Process). p.user) (running f me)
