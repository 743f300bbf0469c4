-- What the calls on processes have decided, and asked the kernel for.
use Rattle.std.proofs.Common.{◌≡◌, ℕ, List, Bool, true, false, not, Option, Some, Result, Ok, Err, length, refl, sym, ap, ◌∙◌, subst}
use Rattle.std.proofs.lemmas.Option.{same_Some}
use Rattle.histar_flat.specs.Accounts.{Accounts}
use Rattle.histar_level.specs.Levels.{Levels}
use Rattle.histar_rules.specs.declared.raw.RawCall.TheVariants.{MakeCategory, Unlink}
use Rattle.histar_syscall.specs.KernelModel.{KernelModel}
use Rattle.histar_layout.specs.Status.{ProcessStatus, child_at, look_for, status_in}
use Rattle.histar_layout.specs.declared.status.Child.{Child}
use Rattle.histar_layout.specs.declared.status.NotAStatus.{NotAStatus}
use Rattle.histar_layout.specs.Categories.{IsUserOf}
use Rattle.histar_programs.specs.Parts.{ask}
use Rattle.histar_programs.specs.Programs.{RunsPart}
use Rattle.histar_programs.specs.declared.call_error.CallError.{CallError}
use Rattle.histar_programs.specs.declared.call_error.CallError.TheVariants.{Stopped}
use Rattle.histar_programs.specs.declared.roots.Home.{Home}
use Rattle.histar_programs.proofs.Running.{before_ask}
use Rattle.histar_layout.proofs.UserOf.{user_is}
use Rattle.histar_process.specs.Birth.{birth}
use Rattle.histar_programs.specs.Kin.{Kin, kin_of, owned_by}
use Rattle.histar_layout.specs.Jobs.{is_empty, jobs_in}
use Rattle.histar_process.proofs.Births.{no_read, without_categories}
use Rattle.histar_process.proofs.Segments.{child_looked}

-- bytes that spell a status have the child that was looked up in them
pub found_is : (bytes : List ℕ) (status : ProcessStatus) (number : ℕ) (found : Option Child)
    → status_in bytes ≡ Some status → Ok found ≡ look_for (status_in bytes) number
    → found ≡ child_at status.children number
found_is bytes status number found revealed is =
    let looked = child_looked (status_in bytes) number found is in
    looked.2 ∙ ap (λ (s : ProcessStatus). child_at s.children number) (same_Some looked.0 status (sym looked.1 ∙ revealed))

-- looking a child up in bytes that spell a status is no fault
pub no_fault : (bytes : List ℕ) (status : ProcessStatus) (number : ℕ) (fault : NotAStatus)
    → status_in bytes ≡ Some status → Err fault ≡ look_for (status_in bytes) number → ⊥
no_fault bytes status number fault revealed is = differ (is ∙ ap (λ o. look_for o number) revealed)
  where
    differ : Err fault ≡ Ok (child_at status.children number) → ⊥
    differ e = cc

module _ (t : ℕ) (old new : KernelModel) where
  -- the kernel was asked for the expected object
  pub unlinked_so : {M : Type 0} → (container container_due object object_due : ℕ) → container ≡ container_due → object ≡ object_due
      → (result : Result (Unit {0}) CallError) → RunsPart M (ask (Unlink container object)) old new t result
      → RunsPart M (ask (Unlink container_due object_due)) old new t result
  unlinked_so {M} container container_due object object_due p q result runs =
      subst (λ (c : ℕ). RunsPart {A = Unit {0}} M (ask (Unlink c object_due)) old new t result) p
      (subst (λ (o : ℕ). RunsPart {A = Unit {0}} M (ask (Unlink container o)) old new t result) q runs)

  -- a birth with the expected kin
  pub born_so : {M : Type 0} → (parent : Home) (status : ProcessStatus) (kin due : Kin) → kin ≡ due
      → (result : Result (Unit {0}) CallError) → RunsPart M (birth parent status kin) old new t result
      → RunsPart M (birth parent status due) old new t result
  born_so {M} parent status kin due is result runs = subst (λ (k : Kin). RunsPart {A = Unit {0}} M (birth parent status k) old new t result) is runs

-- memory ran out before a birth
pub before_birth : {M : Type 0} → (t : ℕ) (parent : Home) (status : ProcessStatus) (kin : Kin) (k : KernelModel) → M
    → RunsPart M (birth parent status kin) k k t (Err Stopped)
before_birth t parent status kin k memory =
    without_categories t parent status kin k k Stopped (Err Stopped) refl (no_read t k k Stopped (before_ask t MakeCategory k memory))

-- the kin that the code computed are those that the label determines
pub kin_is : (own : Levels) (accounts : Accounts) (user : ℕ) (in_job : Bool) (owned jobs : List ℕ)
    → IsUserOf own (length accounts.users) user → in_job ≡ not (is_empty (jobs_in own))
    → owned ≡ owned_by accounts user (not in_job) → jobs ≡ jobs_in own
    → record { owned = owned; jobs = jobs } ≡ kin_of accounts own
kin_is own accounts user in_job owned jobs is in_job_is owned_is jobs_are = λ i. record {
  owned = (owned_is ∙ (λ j. owned_by accounts (sym (user_is own (length accounts.users) user is) j) (free j))) i;
  jobs = jobs_are i;
}
  where
    twice : (b : Bool) → not (not b) ≡ b
    twice true = refl
    twice false = refl

    free : not in_job ≡ is_empty (jobs_in own)
    free = ap not in_job_is ∙ twice (is_empty (jobs_in own))
