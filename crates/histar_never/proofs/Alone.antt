-- A claim on one process.
use Rattle.std.specs.Prelude.{◌≡◌, Option, None, Some, option_and_then, option_map, if◌then◌else◌, refl}
use Rattle.std.specs.Option.{option_or}
use Rattle.std.proofs.Common.{ap, ◌∙◌}
use Rattle.std.proofs.lemmas.Slice.Eq.{bytes_eq-Decides}
use Rattle.histar_base.specs.Paths.{same}
use Rattle.histar_flat.specs.Accounts.{Accounts}
use Rattle.histar_flat.specs.Classes.{Process}
use Rattle.histar_flat.specs.FlatState.{Flat}
use Rattle.histar_flat.specs.FlatCalls.{running}
use Rattle.histar_flat.specs.Words.{Name, ProcName}
use Rattle.histar_flat.proofs.FileLemmas.{same_itself}
use Rattle.histar_rights.specs.Running.{AreRunning, Named, process_cmp, running_in}
use Rattle.histar_rights.specs.Users.{somebody}
use Rattle.histar_diff.proofs.Steps.{process_cmp_exact, process_cmp_total}
use Rattle.histar_never.specs.declared.breaches.Breach.{Breach}
use Rattle.histar_never.specs.declared.breaches.Holder.TheVariants.{AProcess, AUser}
use Rattle.histar_never.specs.declared.claims.Never.{Never}
use Rattle.histar_never.specs.declared.whom.Whom.{Whom}
use Rattle.histar_never.specs.declared.whom.Whom.TheVariants.{OfProcess}
use Rattle.histar_never.specs.Breaches.{breach_in, breach_of, first_of, user_breach}
use Rattle.histar_never.specs.Whom.{is_meant, is_meant_user}
use Rattle.histar_never.proofs.Broken.{breach_parts}
use Rattle.histar_never.proofs.Firsts.{TestsFor, first_at, of_none, or_none}

-- a function of a part of what is found
through : {A B C : Type 0} (h : B → Option C) (g : A → B) (o : Option A)
    → option_and_then (λ x. h (g x)) o ≡ option_and_then h (option_map g o)
through h g None = refl
through h g (Some x) = refl

-- the test of a name finds it alone
tests_name : (p : ProcName) → TestsFor (same p) p
tests_name p = record { found = same_itself p; alone = λ k e. (bytes_eq-Decides p k).0 e }

module _ (accounts : Accounts) (f : Flat) (never : Never) (p : ProcName) (whom : never.whom ≡ OfProcess p)
    (listed : AreRunning f (running_in f)) where
  -- the breach by a process with this user
  abbrev by_user : Name → Option Breach
  by_user user = breach_of accounts f never (AProcess p user)

  by_itself : first_of
      (λ (c : Named). if is_meant never.whom c.0 c.1.user then breach_of accounts f never (AProcess c.0 c.1.user) else None)
      (running_in f) ≡ option_and_then by_user (option_map (λ (x : Process). x.user) (running f p))
  by_itself =
      ap (λ (w : Whom). first_of
      (λ (c : Named). if is_meant w c.0 c.1.user then breach_of accounts f never (AProcess c.0 c.1.user) else None) (running_in f)) whom
      ∙ first_at process_cmp process_cmp_total process_cmp_exact
      (λ (c : Named). breach_of accounts f never (AProcess c.0 c.1.user)) (same p) p (tests_name p) (running_in f) listed.rising
      ∙ ap (option_and_then (λ (x : Process). by_user x.user)) (listed.each p)
      ∙ through by_user (λ (x : Process). x.user) (running f p)

  by_none : first_of (user_breach accounts f never) (somebody accounts) ≡ None
  by_none = of_none (user_breach accounts f never) (somebody accounts)
      (λ user among. ap (λ (w : Whom). if is_meant_user w user then breach_of accounts f never (AUser user) else None) whom)

  -- the breach of a claim on one process is by that one, if it runs
  pub of_one : breach_in accounts f never ≡ option_and_then by_user (option_map (λ (x : Process). x.user) (running f p))
  of_one = breach_parts accounts f never ∙ (λ i. option_or (by_itself i) (by_none i)) ∙ or_none _
