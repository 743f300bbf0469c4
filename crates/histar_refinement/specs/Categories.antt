-- Categories by name: what each category that was made is for, and the numbers of the names.
use Rattle.std.specs.Prelude.{◌≡◌, ℕ, ◌+◌, ◌*◌, ◌<◌, ◌≤◌, Bool, true, false, cond, ◌&&◌, ◌⊎◌, ◌==◌, nat_le, List, [], ◌∷◌, length, Option, None, Some}
use Rattle.std.specs.Prelude.{is_some, unwrap_or, if◌then◌else◌}
use Rattle.std.specs.List.{list_any}
use Rattle.histar_flat.specs.Words.{Path, ProcName}
use Rattle.histar_base.specs.Paths.{same}
use Rattle.histar_flat.specs.Files.{get}
use Rattle.histar_flat.specs.Accounts.{Accounts, has}
use Rattle.histar_flat.specs.Classes.{Class, Process, knows}
use Rattle.histar_flat.specs.Classes.Class.{Scratch}
use Rattle.histar_flat.specs.FlatState.{Node, Flat}

-- the purpose of a category
pub data CategoryName : Type 0 where
  -- the category of the empty kernel, which nobody owns once the boot thread is gone
  OfBoot : CategoryName
  -- to read what is a user's, and to write it, with users by their numbers, of which 0 is nobody's; and the same for a group
  ReadsUser WritesUser ReadsGroup WritesGroup : ℕ → CategoryName
  -- a process's own two categories; and the category of a job, which is named by its first process
  ReadsProcess WritesProcess OfJob : ProcName → CategoryName

-- a name as the number of its kind, and the number or the name that it has
abbrev pub split_category : CategoryName → ℕ × List ℕ
split_category OfBoot = (0, [])
split_category (ReadsUser i) = (1, i ∷ [])
split_category (WritesUser i) = (2, i ∷ [])
split_category (ReadsGroup k) = (3, k ∷ [])
split_category (WritesGroup k) = (4, k ∷ [])
split_category (ReadsProcess p) = (5, p)
split_category (WritesProcess p) = (6, p)
split_category (OfJob job) = (7, job)

-- both are the same name
abbrev pub same_category : CategoryName → CategoryName → Bool
same_category x y = (split_category x).0 == (split_category y).0 && same (split_category x).1 (split_category y).1

-- the name is among these
abbrev pub among : List CategoryName → CategoryName → Bool
among names c = list_any (same_category c) names

-- the number of each category; a name that is not used has a number too, of which nothing is said
abbrev pub Categories : Type 0
Categories = CategoryName → ℕ

-- no two names have one number
abbrev pub AreDifferent : Categories → Type 0
AreDifferent category = (c d : CategoryName) → category c ≡ category d → c ≡ d

-- the number was made
abbrev pub IsMade : ℕ → ℕ → Type 0
IsMade next q = (0 < q) × (q < next)

-- the number that boot gave: 1 is the empty kernel's, then come two for nobody, for each user, for each group, and for process 0
abbrev pub boot_category : Accounts → CategoryName → Option ℕ
boot_category accounts OfBoot = Some 1
boot_category accounts (ReadsUser i) = cond (nat_le i (length accounts.users)) (Some (2 + 2 * i)) None
boot_category accounts (WritesUser i) = cond (nat_le i (length accounts.users)) (Some (3 + 2 * i)) None
boot_category accounts (ReadsGroup k) = cond (nat_le 1 k && nat_le k (length accounts.groups)) (Some (2 + 2 * length accounts.users + 2 * k)) None
boot_category accounts (WritesGroup k) = cond (nat_le 1 k && nat_le k (length accounts.groups)) (Some (3 + 2 * length accounts.users + 2 * k)) None
boot_category accounts (ReadsProcess []) = Some (4 + 2 * length accounts.users + 2 * length accounts.groups)
boot_category accounts (WritesProcess []) = Some (5 + 2 * length accounts.users + 2 * length accounts.groups)
boot_category accounts c = None

-- the number that boot gave, or 0
abbrev pub booted : Accounts → Categories
booted accounts c = unwrap_or (boot_category accounts c) 0

-- a file or directory is for processes of this job
abbrev pub is_for : Class → ProcName → Bool
is_for (Scratch owner jobs) job = has jobs job
is_for class job = false

-- some process is in the job or holds it
abbrev pub IsKnown : Flat → ProcName → Type 0
IsKnown f job = (me : ProcName) × (p : Process) × (f.processes me ≡ Some p) × (knows p job ≡ true)

-- some file or directory is for the job
abbrev pub IsServed : Flat → ProcName → Type 0
IsServed f job = (q : Path) × (there : Node) × (get f.files q ≡ Some there) × (is_for there.class job ≡ true)

-- The names that are used: those of boot, of users and groups, of the processes that are there, and of the jobs that some process
-- knows or some file is for. The categories of what was killed stay made, and have no name any more.
abbrev pub IsUsed : Accounts → Flat → CategoryName → Type 0
IsUsed accounts f OfBoot = Unit {0}
IsUsed accounts f (ReadsUser i) = i ≤ length accounts.users
IsUsed accounts f (WritesUser i) = i ≤ length accounts.users
IsUsed accounts f (ReadsGroup k) = (1 ≤ k) × (k ≤ length accounts.groups)
IsUsed accounts f (WritesGroup k) = (1 ≤ k) × (k ≤ length accounts.groups)
IsUsed accounts f (ReadsProcess me) = is_some (f.processes me) ≡ true
IsUsed accounts f (WritesProcess me) = is_some (f.processes me) ≡ true
IsUsed accounts f (OfJob job) = IsKnown f job ⊎ IsServed f job

-- two numbers change places
abbrev pub swapped : ℕ → ℕ → ℕ → ℕ
swapped x y q = if q == x then y else (if q == y then x else q)

-- the naming in which the next category is this one; what had its number before has the old number of the name
abbrev pub naming_next : Categories → ℕ → CategoryName → Categories
naming_next category next c d = swapped (category c) next (category d)
