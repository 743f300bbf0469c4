-- The classes of nodes allow a user what the flat rules do.
use Rattle.std.proofs.Common.{◌≡◌, ◌&&◌, Bool, true, false, List, [], ◌∷◌, refl, ap, ◌∙◌}
use Rattle.std.specs.List.{list_all}
use Rattle.histar_base.specs.Paths.{same}
use Rattle.histar_flat.specs.Words.{Name, ProcName}
use Rattle.histar_flat.specs.Accounts.{Accounts, is_member}
use Rattle.histar_flat.specs.Classes.{Class, knows, may_read, may_write}
use Rattle.histar_flat.specs.Classes.Class.{Private, Readable, Open, Scratch, Grouped}
use Rattle.histar_layout.specs.UserTable.{without_passwords}
use Rattle.histar_refinement.specs.Categories.{Categories}
use Rattle.histar_refinement.specs.NumberedClasses.{job_numbers, numbered_class}
use Rattle.histar_rights.specs.Users.{process_of}
use Rattle.histar_cells.specs.ByClass.{class_reads, class_writes, is_none}

with_true : (b : Bool) → b ≡ (b && true)
with_true true = refl
with_true false = refl

module _ (accounts : Accounts) (category : Categories) (user : Name) where
  no_jobs : (jobs : List ProcName) → is_none (job_numbers category jobs) ≡ list_all (knows (process_of user)) jobs
  no_jobs [] = refl
  no_jobs (job ∷ jobs) = refl

  -- a user may read what the flat rules say
  pub reads_alike : (c : Class)
      → class_reads (without_passwords accounts) user (numbered_class category c) ≡ may_read accounts (process_of user) c
  reads_alike (Private owner) = refl
  reads_alike (Readable owner) = refl
  reads_alike Open = refl
  reads_alike (Scratch owner jobs) = ap (λ b. same user owner && b) (no_jobs jobs)
  reads_alike (Grouped group) = refl

  -- and may write what they say
  pub writes_alike : (c : Class)
      → class_writes (without_passwords accounts) user (numbered_class category c) ≡ may_write accounts (process_of user) c
  writes_alike (Private owner) = with_true (same user owner)
  writes_alike (Readable owner) = with_true (same user owner)
  writes_alike Open = refl
  writes_alike (Scratch owner jobs) =
      ap (λ b. same user owner && b) (no_jobs jobs) ∙ with_true (same user owner && list_all (knows (process_of user)) jobs)
  writes_alike (Grouped group) = with_true (is_member accounts user group)
