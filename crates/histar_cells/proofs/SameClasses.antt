-- Users with no passwords have the same classes.
use Rattle.std.specs.Prelude.{◌≡◌, ℕ, ◌+◌, ◌*◌, length, map, option_map, refl}
use Rattle.std.proofs.Common.{ap, sym, ◌∙◌, subst}
use Rattle.std.proofs.lemmas.List.{length-map}
use Rattle.histar_flat.specs.Words.{Name}
use Rattle.histar_flat.specs.Accounts.{Accounts, group_number, user_number}
use Rattle.histar_level.specs.Levels.{Levels}
use Rattle.histar_layout.specs.Categories.{group_owner, scratch_label, write_category}
use Rattle.histar_layout.specs.ClassLabels.{HasJobs, IsClassLabel, IsRisingFrom, class_label, owned_label}
use Rattle.histar_layout.specs.Labelling.{written_by}
use Rattle.histar_layout.specs.UserTable.{without_password, without_passwords}
use Rattle.histar_layout.specs.declared.class.Class.{Class}
use Rattle.histar_layout.specs.declared.class.Class.TheVariants.{Private, Readable, Open, Scratch, Group}
use Rattle.histar_shell.proofs.SameUsers.{same_place}

module _ (accounts : Accounts) where
  -- there are as many users without passwords
  pub count : length (map without_password accounts.users) ≡ length accounts.users
  count = search length-map

  same_number : (name : Name) → user_number (without_passwords accounts) name ≡ user_number accounts name
  same_number name = ap (option_map (λ place. place + 1)) (same_place accounts.users name)

  -- a class has the label that it had
  same_class_label : (class : Class) → class_label (without_passwords accounts) class ≡ class_label accounts class
  same_class_label (Private owner) = ap (option_map owned_label) (same_number owner)
  same_class_label (Readable owner) = ap (option_map (λ user. written_by (write_category user))) (same_number owner)
  same_class_label Open = refl
  same_class_label (Scratch owner jobs) = ap (option_map (λ user. scratch_label user jobs)) (same_number owner)
  same_class_label (Group group) = λ i. option_map (λ number. owned_label (group_owner (count i) number)) (group_number accounts group)

  jobs_still : (class : Class) → HasJobs accounts class → HasJobs (without_passwords accounts) class
  jobs_still (Private owner) has = tt
  jobs_still (Readable owner) has = tt
  jobs_still Open has = tt
  jobs_still (Scratch owner jobs) has = subst (λ (users : ℕ). IsRisingFrom (4 + 2 * (users + length accounts.groups)) jobs) (sym count) has
  jobs_still (Group group) has = tt

  -- a label is of the class that it was of
  pub still_of_class : (class : Class) (label : Levels) → IsClassLabel accounts class label
      → IsClassLabel (without_passwords accounts) class label
  still_of_class class label is = record { jobs = jobs_still class is.jobs; is = same_class_label class ∙ is.is }
