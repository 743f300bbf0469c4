-- The users whose read category a label doesn't own.
use Rattle.std.proofs.Common.{◌≡◌, ℕ, ◌+◌, ◌-◌, ◌<◌, ◌≤◌, false, inl, inr, arith, sym, ◌∙◌, subst}
use Rattle.std.proofs.lemmas.Bool.{cases_lt}
use mathlib.Core.Bool.{true≢false}
use Rattle.histar_level.specs.Levels.{Levels}
use Rattle.histar_layout.specs.Categories.{IsUserOf, owns}

-- users are counted from 1, and a loop over them from 0
pub earlier : (own : Levels) (n : ℕ) → ((k : ℕ) → k < n → owns own (k + 1) ≡ false) → (other : ℕ) → 0 < other → other ≤ n → owns own other ≡ false
earlier own n none other positive most =
    let same : other - 1 + 1 ≡ other = omega arith in
    let below : other - 1 < n = omega arith in
    subst (λ (m : ℕ). owns own m ≡ false) same (none (other - 1) below)

-- a user before another is not the first whose read category is owned
no_earlier : (own : Levels) (users a b : ℕ) → IsUserOf own users a → IsUserOf own users b → a < b → ⊥
no_earlier own users a b of_a of_b less = elim (cases_lt 0 a) [
  | inl positive ↦ true≢false (sym (of_a.owner positive) ∙ of_b.first a positive less)
  | inr none ↦
      let no_one : a ≡ 0 = omega arith in
      let later : 0 < b = omega arith in
      true≢false (sym (of_b.owner later) ∙ of_a.nobody no_one b later of_b.known)
]

-- a thread is of one user
pub one_user : (own : Levels) (users a b : ℕ) → IsUserOf own users a → IsUserOf own users b → a ≡ b
one_user own users a b of_a of_b = elim (cases_lt a b) [
  | inl less ↦ absurd (no_earlier own users a b of_a of_b less)
  | inr least ↦ elim (cases_lt b a) [
    | inl less ↦ absurd (no_earlier own users b a of_b of_a less)
    | inr most ↦ omega arith
  ]
]
