-- How far boot has come.
use Rattle.std.specs.Prelude.{◌≡◌, ℕ, ◌+◌, ◌*◌, ◌<◌, ◌≤◌, Bool, ◌&&◌, nat_lt, if◌then◌else◌, List, [], ◌∷◌, ◌++◌, length, take, None, Some, Result}
use Rattle.std.specs.Prelude.{Ok, Err, ⊤}
use Rattle.std.specs.List.{range_with_len}
use Rattle.histar_flat.specs.declared.calls.User.{User}
use Rattle.histar_flat.specs.Accounts.{Accounts}
use Rattle.histar_object.specs.declared.objects.Object.{Object}
use Rattle.histar_object.specs.declared.objects.Kind.TheVariants.{Thread}
use Rattle.histar_object.specs.State.{Found}
use Rattle.histar_level.specs.declared.level.Level.TheVariants.{Star, L1, L2, L3}
use Rattle.histar_level.specs.Levels.{Levels, level_of}
use Rattle.histar_rules.specs.declared.raw.RawCall.{RawCall}
use Rattle.histar_rules.specs.declared.raw.RawCall.TheVariants.{MakeCategory}
use Rattle.histar_rules.specs.declared.raw.Refusal.{Refusal}
use Rattle.histar_rules.specs.declared.raw.Refusal.TheVariants as refusals
use Rattle.histar_rules.specs.Rules.{check, greatest}
use Rattle.histar_rules.specs.RawAnswers.{AnswerOf, IsAnswer}
use Rattle.histar_syscall.specs.KernelModel.{KernelModel, state, Called, IsUnchanged}
use Rattle.histar_syscall.specs.Runs.{Granted}
use Rattle.histar_layout.specs.Labelling.{written_by}
use Rattle.histar_programs.specs.declared.roots.Home.{Home}
use Rattle.histar_programs.specs.declared.roots.Place.{Place}
use Rattle.histar_programs.specs.Start.{numbered, root_category, declared, own_read_category, container, state_with, roots_of, of_user, of_users}
use Rattle.histar_programs.specs.Start.{of_directory, of_process}
use Rattle.histar_login.specs.Boot.{category_calls, user_calls, directory_calls, process_calls}
use Rattle.histar_programs.specs.Start.{boot_thread_number}

-- A part of boot: its raw calls, the numbers that the root container links by them, the objects that they make, and how many
-- categories they make.
pub record Part : Type 0 where
  pub calls : List RawCall
  pub linked : List ℕ
  pub objects : List Found
  pub categories : ℕ

-- one part after another
abbrev pub and_then : Part → Part → Part
and_then p q = record { calls = p.calls ++ q.calls; linked = p.linked ++ q.linked; objects = p.objects ++ q.objects; categories = p.categories + q.categories }

-- boot has made nothing yet
abbrev pub nothing_yet : Part
nothing_yet = record { calls = []; linked = []; objects = []; categories = 0 }

-- the number that the next object gets after the first part of boot: 1 is the root container, and 2 the boot thread
abbrev pub next_number : Part → ℕ
next_number p = 3 + length p.objects

-- the category that is made next after the first part of boot: 1 is the boot thread's
abbrev pub next_made : Part → ℕ
next_made p = 2 + p.categories

-- the objects from number 1 on after the first part of boot, where this is the boot thread
abbrev pub table_of : Object Levels → Part → List Found
table_of boot p = container (written_by root_category) (boot_thread_number ∷ p.linked) ∷ Some boot ∷ p.objects

-- whether a category was made, where this is the next one
abbrev pub was_made : ℕ → ℕ → Bool
was_made next c = nat_lt 0 c && nat_lt c next

-- a thread that owns each category that was made, and is cleared for level 3 there
pub record OwnsMade (next : ℕ) (o : Object Levels) : Type 0 where
  pub clearance : Levels
  pub is_thread : o.kind ≡ Thread clearance
  pub owns : (c : ℕ) → level_of o.label c ≡ (if was_made next c then Star else L1)
  pub cleared : (c : ℕ) → level_of clearance c ≡ (if was_made next c then L3 else L2)

-- the first part of boot is done: the boot thread made its calls, each was granted, and they led to these objects
pub record Boots (first now : KernelModel) (p : Part) : Type 0 where
  pub granted : Granted first now boot_thread_number p.calls
  pub boot : Object Levels
  pub owner : OwnsMade (next_made p) boot
  pub agrees : state now ≡ state_with (table_of boot p) (next_made p)

-- if boot had come so far that this holds, it has gone on by this part
abbrev pub BootsOn : KernelModel → KernelModel → (Part → Type 0) → Part → Type 0
BootsOn old new IsSo more = (first : KernelModel) (p : Part) → IsSo p → Boots first old p → Boots first new (and_then p more)

-- if boot had come so far that this holds, the second proposition holds too
abbrev pub FollowsOfBoot : KernelModel → (Part → Type 0) → Type 0 → Type 0
FollowsOfBoot old IsSo Shown = (first : KernelModel) (p : Part) → IsSo p → Boots first old p → Shown

-- some of these raw calls and not all were made, after those before them; each was granted
pub record HasBegun (first now : KernelModel) (before calls : List RawCall) : Type 0 where
  pub made : ℕ
  pub few : made < length calls
  pub granted : Granted first now boot_thread_number (before ++ take made calls)

-- if boot had come so far that this holds, it has begun this part and not ended it
abbrev pub BeginsOn : KernelModel → KernelModel → (Part → Type 0) → Part → Type 0
BeginsOn old new IsSo more = (first : KernelModel) (p : Part) → IsSo p → Boots first old p → HasBegun first new p.calls more.calls

-- boot is under way, and has come so far that this holds
abbrev pub IsUnderWay : (Part → Type 0) → KernelModel → Type 0
IsUnderWay IsSo now = (first : KernelModel) × (p : Part) × IsSo p × Boots first now p

-- there are numbers for this many more categories and objects
pub record HasRoom (categories_more objects_more : ℕ) (p : Part) : Type 0 where
  pub room_for_categories : next_made p + categories_more ≤ greatest
  pub room_for_objects : next_number p + objects_more ≤ greatest

-- the rules let the boot thread make this raw call
abbrev pub Allows : KernelModel → RawCall → Type 0
Allows now call = check (state now) boot_thread_number call ≡ None

-- the answer is no denial
abbrev pub IsUndenied : {A : Type 0} → Result A Refusal → Type 0
IsUndenied (Ok a) = ⊤
IsUndenied (Err (refusals.Denied denied)) = ⊥
IsUndenied (Err refusals.OutOfMemory) = ⊤

-- an answer is passed on, and lack of memory becomes an error
abbrev pub Passes : {A E : Type 0} → Result A Refusal → Result A E → Type 0
Passes answer (Ok a) = answer ≡ Ok a
Passes answer (Err stopped) = answer ≡ Err refusals.OutOfMemory

-- the boot thread made this raw call, which was granted and has its answer, or memory ran out and nothing has changed
abbrev pub Grants : {E : Type 0} → KernelModel → KernelModel → (call : RawCall) → Result (AnswerOf call) E → Type 0
Grants old new call (Ok answer) = Called old new boot_thread_number call None × IsAnswer (state old) boot_thread_number call answer
Grants old new call (Err stopped) = IsUnchanged old new

-- the next object gets this number
abbrev pub IsBefore : ℕ → Part → Type 0
IsBefore number p = next_number p ≡ number

-- the next object gets this number, and the next category is this one
abbrev pub IsBeforeBoth : ℕ → ℕ → Part → Type 0
IsBeforeBoth number category p = (next_number p ≡ number) × (next_made p ≡ category)

-- boot has come to any point
abbrev pub IsAnywhere : Part → Type 0
IsAnywhere p = Unit {0}

-- the two categories of nobody, of a user or of a group
abbrev pub two_categories : Part
two_categories = record { calls = MakeCategory ∷ MakeCategory ∷ []; linked = []; objects = []; categories = 2 }

-- this many pairs of categories
abbrev pub categories_part : ℕ → Part
categories_part count = record { calls = category_calls count; linked = []; objects = []; categories = 2 * count }

-- the password and the gate of user i
abbrev pub user_part : Accounts → ℕ → User → Part
user_part accounts i user = record { calls = user_calls accounts i user; linked = (1 + 2 * i) ∷ (2 + 2 * i) ∷ []; objects = of_user accounts i user; categories = 0 }

-- boot has come to the user of this number
abbrev pub IsBeforeUser : Accounts → ℕ → Part → Type 0
IsBeforeUser accounts i = IsBeforeBoth (1 + 2 * i) (own_read_category (declared accounts))

-- the password and the gate of user i were made
abbrev pub MakesUser : KernelModel → KernelModel → Accounts → ℕ → User → Type 0
MakesUser old new accounts i user = BootsOn old new (IsBefore (1 + 2 * i)) (user_part accounts i user)

-- the password and the gate of user i were begun
abbrev pub BeginsUser : KernelModel → KernelModel → Accounts → ℕ → User → Type 0
BeginsUser old new accounts i user = BeginsOn old new (IsBefore (1 + 2 * i)) (user_part accounts i user)

-- the passwords and the gates of these users
abbrev pub users_part : Accounts → List User → Part
users_part accounts users = record {
  calls = numbered (user_calls accounts) 1 users;
  linked = range_with_len 3 (2 * length users);
  objects = of_users accounts users;
  categories = 0;
}

-- the user table and `/`
abbrev pub directory_part : ℕ → Accounts → Part
directory_part n accounts = record { calls = directory_calls n accounts; linked = (3 + 2 * n) ∷ (4 + 2 * n) ∷ []; objects = of_directory n accounts; categories = 0 }

-- the passwords and the gates of all users were made
abbrev pub MakesUsers : KernelModel → KernelModel → Accounts → Type 0
MakesUsers old new accounts = BootsOn old new (IsBefore 3) (users_part accounts accounts.users)

-- the passwords and the gates of all users were begun
abbrev pub BeginsUsers : KernelModel → KernelModel → Accounts → Type 0
BeginsUsers old new accounts = BeginsOn old new (IsBefore 3) (users_part accounts accounts.users)

-- boot has come to the user table and `/`, and there is room for them
pub record IsBeforeDirectory (accounts : Accounts) (p : Part) : Type 0 where
  pub comes : IsBeforeBoth (3 + 2 * length accounts.users) (own_read_category (declared accounts)) p
  pub room : HasRoom 0 3 p

-- the user table and `/` were begun there
abbrev pub BeginsDirectory : KernelModel → KernelModel → Accounts → Type 0
BeginsDirectory old new accounts = BeginsOn old new (IsBefore (3 + 2 * length accounts.users)) (directory_part (length accounts.users) accounts)

-- the user table and `/` were made after the passwords and the gates of all users
abbrev pub MakesDirectory : KernelModel → KernelModel → Accounts → Type 0
MakesDirectory old new accounts = BootsOn old new (IsBefore (3 + 2 * length accounts.users)) (directory_part (length accounts.users) accounts)

-- the container and the segment that are made there are those of `/`
abbrev pub IsFirstDirectory : KernelModel → Accounts → Place → Type 0
IsFirstDirectory old accounts slash = FollowsOfBoot old (IsBefore (3 + 2 * length accounts.users)) (slash ≡ (roots_of (length accounts.users)).slash)

-- process 0
abbrev pub process_part : ℕ → ℕ → Part
process_part n owners = record { calls = process_calls n owners; linked = (6 + 2 * n) ∷ []; objects = of_process n owners; categories = 2 }

-- process 0 was made after `/`, where there are n users, and this many users and groups together
abbrev pub MakesProcess : KernelModel → KernelModel → Type 0
MakesProcess old new = (n owners : ℕ) → BootsOn old new (IsBeforeBoth (6 + 2 * n) (own_read_category owners)) (process_part n owners)

-- process 0 was begun there
abbrev pub BeginsProcess : KernelModel → KernelModel → Type 0
BeginsProcess old new = (n owners : ℕ) → BeginsOn old new (IsBeforeBoth (6 + 2 * n) (own_read_category owners)) (process_part n owners)

-- the container and the segment that are made after `/` are those of process 0
abbrev pub IsFirstHome : KernelModel → Home → Type 0
IsFirstHome old home = (n owners : ℕ) → FollowsOfBoot old (IsBeforeBoth (6 + 2 * n) (own_read_category owners)) (home ≡ (roots_of n).home)
