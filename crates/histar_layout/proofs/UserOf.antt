-- The user of a label is the first one whose read category it owns.
use Rattle.std.specs.Prelude.{not, IfOk}
use Rattle.std.proofs.Common.{Result, Ok, Err, ◌≡◌, ℕ, zero, suc, ◌+◌, ◌<◌, ◌≤◌, ◌⊎◌, inl, inr, Bool, true, false, refl, sym, ap, ◌∙◌, arith, length}
use Rattle.std.proofs.Common.{if◌then◌else◌}
use Rattle.std.proofs.lemmas.Bool.{cases_lt}
use mathlib.Core.Bool.{true≢false}
use Rattle.histar_level.specs.Levels.{Levels}
use Rattle.histar_flat.specs.declared.calls.Mode.{Mode}
use Rattle.histar_flat.specs.Accounts.{Accounts}
use Rattle.histar_layout.specs.Jobs.{is_empty, jobs_in}
use Rattle.histar_layout.specs.Categories.{IsUserOf, owns, owner_from, user_of, file_label, scratch_label, label_made}

by_case : (x k user : ℕ) (b c : Bool) → (c ≡ true → k ≡ user) → (c ≡ false → x ≡ user) → c ≡ b → (if b then k else x) ≡ user
by_case x k user true c holds fails e = holds e
by_case x k user false c holds fails e = fails e

module _ (own : Levels) (users user : ℕ) (is : IsUserOf own users user) where
  next_at : (k : ℕ) → 0 < k → (user ≡ 0) ⊎ (k ≤ user) → owns own k ≡ false → (user ≡ 0) ⊎ (suc k ≤ user)
  next_at k positive at e = elim at [
    | inl none ↦ inl none
    | inr later ↦ elim (cases_lt k user) [
      | inl less ↦ inr (omega arith)
      | inr most ↦
          let same : user ≡ k = omega arith in
          let above : 0 < user = omega arith in
          absurd (true≢false (sym (is.owner above) ∙ ap (owns own) same ∙ e))
    ]
  ]

  here_at : (n k : ℕ) → 0 < k → k + suc n ≡ users + 1 → (user ≡ 0) ⊎ (k ≤ user) → owns own k ≡ true → k ≡ user
  here_at n k positive end at e = elim at [
    | inl none ↦ let known : k ≤ users = omega arith in absurd (true≢false (sym e ∙ is.nobody none k positive known))
    | inr later ↦ elim (cases_lt k user) [
      | inl less ↦ absurd (true≢false (sym e ∙ is.first k positive less))
      | inr most ↦ omega arith
    ]
  ]

  from : (n k : ℕ) → 0 < k → k + n ≡ users + 1 → (user ≡ 0) ⊎ (k ≤ user) → owner_from own k n ≡ user
  from zero k positive end at = elim at [
    | inl none ↦ sym none
    | inr later ↦ let most : user ≤ users = is.known in absurd (omega arith)
  ]
  from (suc n) k positive end at =
      by_case (owner_from own (suc k) n) k user (owns own k) (owns own k) (here_at n k positive end at)
      (λ e. from n (suc k) (omega arith) (omega arith) (next_at k positive at e)) refl

  pub user_is : user_of own users ≡ user
  unfolding user_of
  user_is = from users 1 (omega arith) (omega arith) (elim (cases_lt 0 user) [ inl less ↦ inr less | inr none ↦ inl (omega arith) ])

-- in no job, the label that is made is that of the mode
pub made_free : {E : Type 0} (result : Result Levels E) (own : Levels) (accounts : Accounts) (user : ℕ) (mode : Mode)
    → IsUserOf own (length accounts.users) user → is_empty (jobs_in own) ≡ true
    → IfOk result (λ label. label ≡ file_label accounts mode user) → IfOk result (λ label. label ≡ label_made accounts own mode)
made_free (Ok label) own accounts user mode is free right =
    right ∙ ap (file_label accounts mode) (sym (user_is own (length accounts.users) user is))
    ∙ ap (λ (b : Bool). if b then file_label accounts mode (user_of own (length accounts.users)) else scratch_label
    (user_of own (length accounts.users)) (jobs_in own)) (sym free)
made_free (Err error) own accounts user mode is free right = right

-- in jobs, the label that is made is that of the jobs
pub made_in_jobs : {E : Type 0} (result : Result Levels E) (own : Levels) (accounts : Accounts) (user : ℕ) (mode : Mode)
    → IsUserOf own (length accounts.users) user → is_empty (jobs_in own) ≡ false
    → IfOk result (λ label. label ≡ scratch_label user (jobs_in own)) → IfOk result (λ label. label ≡ label_made accounts own mode)
made_in_jobs (Ok label) own accounts user mode is busy right =
    right ∙ ap (λ (i : ℕ). scratch_label i (jobs_in own)) (sym (user_is own (length accounts.users) user is))
    ∙ ap (λ (b : Bool). if b then file_label accounts mode (user_of own (length accounts.users)) else scratch_label
    (user_of own (length accounts.users)) (jobs_in own)) (sym busy)
made_in_jobs (Err error) own accounts user mode is busy right = right

-- a test that is negated twice is the test
pub not_twice : (b c d : Bool) → c ≡ not b → not c ≡ d → b ≡ d
not_twice true c d is twice = ap not (sym is) ∙ twice
not_twice false c d is twice = ap not (sym is) ∙ twice
