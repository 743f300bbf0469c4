-- The category of a job has a number that was given after boot, since boot gave each one below to another name.
use Rattle.std.proofs.Common.{◌≡◌, ◌≢◌, ℕ, zero, suc, ◌+◌, ◌-◌, ◌*◌, ◌<◌, ◌≤◌, true, [], None, Some, inl, inr, ◌⊎◌}
use Rattle.std.proofs.Common.{length, arith, refl, sym, ap, ◌∙◌}
use Rattle.std.specs.Prelude.{◌&&◌, cond, nat_le}
use Rattle.std.proofs.lemmas.Bool.Decides.{leb_tells, nat_tests}
use Rattle.histar_flat.specs.Words.{ProcName}
use Rattle.histar_flat.specs.Accounts.{Accounts}
use Rattle.histar_flat.specs.FlatState.{Flat}
use Rattle.histar_object.specs.State.{State}
use Rattle.histar_programs.specs.Start.{declared}
use Rattle.histar_refinement.specs.Categories.{CategoryName, IsUsed, boot_category}
use Rattle.histar_refinement.specs.Categories.CategoryName.{OfBoot, ReadsUser, WritesUser, ReadsGroup, WritesGroup, ReadsProcess, WritesProcess}
use Rattle.histar_refinement.specs.Categories.CategoryName.{OfJob}
use Rattle.histar_refinement.specs.Represents.{ObjectsMatch}

-- a number is even or odd
half : (k : ℕ) → (i : ℕ) × ((k ≡ 2 * i) ⊎ (k ≡ 1 + 2 * i))
half zero = (0, inl refl)
half (suc k) = let of = half k in elim of.1 [
  | inl even ↦ (of.0, inr (omega (arith, even)))
  | inr odd ↦ (of.0 + 1, inl (omega (arith, odd)))
]

module _ (accounts : Accounts) (s : State) (f : Flat) (l : ObjectsMatch accounts s f) (job : ProcName) where
  abbrev v : ℕ
  v = l.category (OfJob job)

  -- a number of boot is not the job's
  not_of : (c : CategoryName) → c ≢ OfJob job → (q : ℕ) → boot_category accounts c ≡ Some q → v ≢ q
  not_of c other q booted e = other (l.different c (OfJob job) (l.as_made c q booted ∙ sym e))

  -- so are the two numbers of a place
  abbrev IsTaken : ℕ → Type 0
  IsTaken i = (v ≢ 2 + 2 * i) × (v ≢ 3 + 2 * i)

  of_user : (i : ℕ) → i ≤ length accounts.users → IsTaken i
  of_user i le =
      let passes : nat_le i (length accounts.users) ≡ true = grind (arith, nat_tests, le) in (
        not_of (ReadsUser i) (λ e. cc) (2 + 2 * i) (ap (λ b. cond b (Some (2 + 2 * i)) None) passes),
        not_of (WritesUser i) (λ e. cc) (3 + 2 * i) (ap (λ b. cond b (Some (3 + 2 * i)) None) passes),
      )

  of_group : (i : ℕ) → length accounts.users < i → i ≤ declared accounts → IsTaken i
  of_group i low high =
      let k = i - length accounts.users in
      let first : nat_le 1 k ≡ true = grind (arith, nat_tests, low) in
      let second : nat_le k (length accounts.groups) ≡ true = grind (arith, nat_tests, low, high) in
      let here : length accounts.users + k ≡ i = omega (arith, low) in (
        λ e. not_of (ReadsGroup k) (λ no. cc) (2 + 2 * length accounts.users + 2 * k)
            (λ j. cond (first j && second j) (Some (2 + 2 * length accounts.users + 2 * k)) None) (e ∙ omega (arith, here)),
        λ e. not_of (WritesGroup k) (λ no. cc) (3 + 2 * length accounts.users + 2 * k)
            (λ j. cond (first j && second j) (Some (3 + 2 * length accounts.users + 2 * k)) None) (e ∙ omega (arith, here)),
      )

  of_first : (i : ℕ) → i ≡ 1 + declared accounts → IsTaken i
  of_first i is = (
    λ e. not_of (ReadsProcess []) (λ no. cc) (4 + 2 * length accounts.users + 2 * length accounts.groups) refl (e ∙ omega (arith, is)),
    λ e. not_of (WritesProcess []) (λ no. cc) (5 + 2 * length accounts.users + 2 * length accounts.groups) refl (e ∙ omega (arith, is)),
  )

  taken : (i : ℕ) → i ≤ 1 + declared accounts → IsTaken i
  taken i le = elim (leb_tells i (length accounts.users)) [
    | inl h ↦ of_user i h.1
    | inr h ↦ let low = h.1 in elim (leb_tells i (declared accounts)) [
      | inl k ↦ of_group i low k.1
      | inr k ↦ let high = k.1 in of_first i (omega (arith, le, high))
    ]
  ]

  pub made_later : IsUsed accounts f (OfJob job) → 6 + 2 * declared accounts ≤ v
  made_later used = elim (leb_tells (6 + 2 * declared accounts) v) [
    | inl h ↦ h.1
    | inr h ↦
        let low = h.1 in
        let some = (l.made (OfJob job) used).0 in
        let other = not_of OfBoot (λ e. cc) 1 refl in
        let of = half (v - 2) in
        absurd (elim of.1 [
          | inl even ↦ (taken of.0 (omega (arith, even, low))).0 (omega (arith, even, some, other))
          | inr odd ↦ (taken of.0 (omega (arith, odd, low))).1 (omega (arith, odd, some, other))
        ])
  ]
