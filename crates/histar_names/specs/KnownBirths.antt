-- When what was noted of categories is right.
use Rattle.std.specs.Prelude.{◌≡◌, ◌+◌, ◌≤◌, length, None, Some, slice_get}
use Rattle.histar_flat.specs.Accounts.{Accounts}
use Rattle.histar_flat.specs.FlatState.{Flat}
use Rattle.histar_object.specs.State.{State}
use Rattle.histar_refinement.specs.Categories.{CategoryName, CategoryName as names, IsUsed, boot_category}
use Rattle.histar_refinement.specs.Represents.{Represents}
use Rattle.histar_names.specs.Births.{Births}
use Rattle.histar_names.specs.declared.purposes.Purpose.{Purpose}
use Rattle.histar_names.specs.declared.purposes.Purpose.TheVariants.{Boot, Reads, Writes, ReadsProcess, WritesProcess, Job}

-- what the category of this name is for: nobody is number 0, then come the users, then the groups
abbrev pub purpose_named : Accounts → CategoryName → Purpose
purpose_named accounts names.OfBoot = Boot
purpose_named accounts (names.ReadsUser i) = Reads i
purpose_named accounts (names.WritesUser i) = Writes i
purpose_named accounts (names.ReadsGroup k) = Reads (length accounts.users + k)
purpose_named accounts (names.WritesGroup k) = Writes (length accounts.users + k)
purpose_named accounts (names.ReadsProcess me) = ReadsProcess me
purpose_named accounts (names.WritesProcess me) = WritesProcess me
purpose_named accounts (names.OfJob job) = Job job

-- A state represents a flat state, under names by which it was noted of each category that is used, and that boot didn't make,
-- what it is for.
pub record NamesBirths (births : Births) (accounts : Accounts) (s : State) (f : Flat) : Type 0 where
  pub represents : Represents accounts s f
  pub noted : (name : CategoryName) → IsUsed accounts f name → boot_category accounts name ≡ None
      → slice_get births (represents.matched.category name) ≡ Some (Some (purpose_named accounts name))
  pub few : length births ≤ s.next_category
