-- The labels of classes.
use Rattle.std.specs.Prelude.{◌≡◌, ℕ, ◌+◌, ◌*◌, ◌≤◌, ◌&&◌, nat_le, List, [], ◌∷◌, length, Option, Some, option_map, MatchOption, map}
use Rattle.std.specs.List.{filter}
use Rattle.histar_flat.specs.Accounts.{Accounts, user_number, group_number}
use Rattle.histar_level.specs.declared.level.Level.TheVariants.{L1}
use Rattle.histar_level.specs.Levels.{Levels, exceptions_of}
use Rattle.histar_label.specs.Levels.{constant}
use Rattle.histar_layout.specs.Labelling.{written_by, secret_of}
use Rattle.histar_layout.specs.Jobs.{is_three}
use Rattle.histar_layout.specs.Categories.{read_category, write_category, group_owner, scratch_label}
use Rattle.histar_layout.specs.ShownClass.{class_shown}
use Rattle.histar_layout.specs.declared.shown.ShownClass.{ShownClass}
use Rattle.histar_layout.specs.declared.shown.ShownClass.TheVariants as shown
use Rattle.histar_layout.specs.declared.class.Class.{Class}
use Rattle.histar_layout.specs.declared.class.Class.TheVariants.{Private, Readable, Open, Scratch, Group}

-- the numbers rise, and the first is no smaller than n
abbrev pub IsRisingFrom : ℕ → List ℕ → Type 0
IsRisingFrom n [] = Unit {0}
IsRisingFrom n (m ∷ more) = (n ≤ m) × IsRisingFrom (m + 1) more

-- the first category after those of boot, of nobody, of the users and of the groups
abbrev pub first_after_groups : Accounts → ℕ
first_after_groups accounts = 4 + 2 * (length accounts.users + length accounts.groups)

-- the label of an object that the user or the group of this number alone reads and writes
abbrev pub owned_label : ℕ → Levels
owned_label owner = secret_of (read_category owner) (write_category owner)

-- the label of a class, where its owner or its group is declared
abbrev pub class_label : Accounts → Class → Option Levels
class_label accounts (Private owner) = option_map owned_label (user_number accounts owner)
class_label accounts (Readable owner) = option_map (λ user. written_by (write_category user)) (user_number accounts owner)
class_label accounts Open = Some (constant L1)
class_label accounts (Scratch owner jobs) = option_map (λ user. scratch_label user jobs) (user_number accounts owner)
class_label accounts (Group group) = option_map (λ number. owned_label (group_owner (length accounts.users) number)) (group_number accounts group)

-- the categories of the jobs of a class rise, and none of them is boot's, nobody's, a user's or a group's
abbrev pub HasJobs : Accounts → Class → Type 0
HasJobs accounts (Private owner) = Unit {0}
HasJobs accounts (Readable owner) = Unit {0}
HasJobs accounts Open = Unit {0}
HasJobs accounts (Scratch owner jobs) = IsRisingFrom (first_after_groups accounts) jobs
HasJobs accounts (Group group) = Unit {0}

-- this is the label of this class
pub record IsClassLabel (accounts : Accounts) (class : Class) (label : Levels) : Type 0 where
  pub jobs : HasJobs accounts class
  pub is : class_label accounts class ≡ Some label

-- the class that was found is that of a label, and none was found exactly where the label is of no class
abbrev pub FindsClass : Accounts → Levels → Option Class → Type 0
FindsClass accounts label found = MatchOption found ((class : Class) → IsClassLabel accounts class label → ⊥) (λ class. IsClassLabel accounts class label)

-- a label is of one class at most
abbrev pub LabelsHaveOneClass : Type 0
LabelsHaveOneClass = (accounts : Accounts) (label : Levels) (a b : Class) → IsClassLabel accounts a label → IsClassLabel accounts b label → a ≡ b

-- a class without its jobs
abbrev pub without_jobs : Class → ShownClass
without_jobs (Private owner) = shown.Private owner
without_jobs (Readable owner) = shown.Readable owner
without_jobs Open = shown.Open
without_jobs (Scratch owner jobs) = shown.Scratch owner
without_jobs (Group group) = shown.Group group

-- a label of a class shows this class, except for its jobs
abbrev pub ClassesAreShown : Type 0
ClassesAreShown = (accounts : Accounts) (class : Class) (label : Levels) → IsClassLabel accounts class label → class_shown accounts label ≡ Some (without_jobs class)

-- the class with these jobs that shows this class
abbrev pub with_jobs : List ℕ → ShownClass → Class
with_jobs jobs (shown.Private owner) = Private owner
with_jobs jobs (shown.Readable owner) = Readable owner
with_jobs jobs shown.Open = Open
with_jobs jobs (shown.Scratch owner) = Scratch owner jobs
with_jobs jobs (shown.Group group) = Group group

-- the categories of jobs that are at 3 in a label
abbrev pub jobs_of : Accounts → Levels → List ℕ
jobs_of accounts label = map (λ e. e.0) (filter (λ e. is_three e.1 && nat_le (first_after_groups accounts) e.0) (exceptions_of label))

-- the only class that a label can have: the one that it shows, with the jobs that it has
abbrev pub likely_class : Accounts → Levels → Option Class
likely_class accounts label = option_map (with_jobs (jobs_of accounts label)) (class_shown accounts label)
