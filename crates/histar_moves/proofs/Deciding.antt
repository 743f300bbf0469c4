-- How the code of a call goes on, or is refused, by what it decided with no raw call.
use Rattle.std.proofs.Common.{◌≡◌, ℕ, Result, Ok, Err, subst}
use Rattle.histar_flat.specs.declared.replies.Errno.{Errno}
use Rattle.histar_flat.specs.declared.replies.Reply.{Reply}
use Rattle.histar_flat.specs.declared.replies.Reply.TheVariants as replies
use Rattle.histar_syscall.specs.KernelModel.{KernelModel}
use Rattle.histar_programs.specs.declared.call_error.CallError.TheVariants.{Refused}
use Rattle.histar_programs.specs.declared.call_error.Stopped.{Stopped}
use Rattle.histar_programs.specs.Parts.{given}
use Rattle.histar_programs.specs.Programs.{Program, Runs}
use Rattle.histar_programs.specs.Refusals.{settled}
use Rattle.histar_programs.proofs.Running.{says}

module _ {A : Type 0} (t : ℕ) (decided : Result A Errno) (rest : A → Program) where
  -- the call goes on with what was decided
  pub goes_on : {M : Type 0} → (old new : KernelModel) (x : A) → Ok x ≡ decided → (result : Result Reply Stopped)
      → Runs M (rest x) old new t result → Runs M (given decided rest) old new t result
  goes_on {M} old new x is result runs = subst (λ (d : Result A Errno). Runs M (given d rest) old new t result) is runs

  -- the call is refused by what was decided
  pub is_refused : {M : Type 0} → (k : KernelModel) (errno : Errno) → Err errno ≡ decided
      → Runs M (given decided rest) k k t (settled (Err (Refused errno)))
  is_refused {M} k errno is =
      subst (λ (d : Result A Errno). Runs M (given d rest) k k t (settled (Err (Refused errno)))) is
      (says t k (replies.Refused errno))
