-- Which paths and processes lie below which.
use Rattle.std.specs.Prelude.{ℕ, ◌≡◌, ◌≢◌, ◌≤◌, ◌<◌, ◌-◌, suc, Bool, true, false, ◌||◌, ◌&&◌, List, [], ◌∷◌, length, drop, refl}
use Rattle.std.proofs.Common.{arith, ap, inl, inr, sym, ◌∙◌}
use Rattle.std.proofs.lemmas.Bool.{true≢false, cases_lt, cases_Bool}
use Rattle.std.specs.Cmp.Lexicographic.{pointwise}
use Rattle.std.proofs.Math.Bool.{or-true, or-false}
use Rattle.histar_flat.specs.PathOrder.{is_under}
use Rattle.histar_flat.proofs.FileLemmas.{Found}

-- lists of different lengths are not the same
differ : {A : Type 0} (equal : A → A → Bool) (p q : List A) → length p ≢ length q → pointwise equal p q ≡ false
differ equal [] [] other = absurd (other refl)
differ equal [] (n ∷ q) other = refl
differ equal (m ∷ p) [] other = refl
differ equal (m ∷ p) (n ∷ q) other = by (equal m n) (differ equal p q (λ e. other (ap suc e)))
  where
    by : (b : Bool) → pointwise equal p q ≡ false → (b && pointwise equal p q) ≡ false
    by false e = refl
    by true e = e

-- a longer list has no shorter list below it
pub shorter : {A : Type 0} (equal : A → A → Bool) (p q : List A) → length q < length p → is_under equal p q ≡ false
shorter equal p [] lt = differ equal p [] (λ e. omega (arith, e, lt))
shorter equal p (n ∷ q) lt = rw (differ equal p (n ∷ q) (λ e. omega (arith, e, lt)), shorter equal p q (omega (arith, lt))) refl

-- a list has those below it that end with it
pub under_is_end : {A : Type 0} (equal : A → A → Bool) (p q : List A) → length p ≤ length q
    → is_under equal p q ≡ pointwise equal p (drop (length q - length p) q)
under_is_end equal [] [] le = refl
under_is_end equal (m ∷ p) [] le = absurd (omega (arith, le))
under_is_end equal p (n ∷ q) le = elim (cases_lt (length q) (length p)) [
  | inl lt ↦
      let same : suc (length q) - length p ≡ 0 = omega (arith, lt, le) in
      ap (λ b. pointwise equal p (n ∷ q) || b) (shorter equal p q lt) ∙ or-false (pointwise equal p (n ∷ q))
      ∙ ap (λ (i : ℕ). pointwise equal p (drop i (n ∷ q))) (sym same)
  | inr here ↦
      let more : suc (length q) - length p ≡ suc (length q - length p) = omega (arith, here) in
      ap (λ b. b || is_under equal p q) (differ equal p (n ∷ q) (λ e. omega (arith, e, here)))
      ∙ under_is_end equal p q here ∙ ap (λ (i : ℕ). pointwise equal p (drop i (n ∷ q))) (sym more)
]

module _ {A : Type 0} (equal : A → A → Bool) (found : (p q : List A) → Found (pointwise equal p q) p q) where
  -- each name lies below itself
  pub under_itself : (p : List A) → is_under equal p p ≡ true
  under_itself [] = refl
  under_itself (n ∷ p) = elim (found (n ∷ p) (n ∷ p)) [
    | inl e ↦ ap (λ b. b || is_under equal (n ∷ p) p) e.0
    | inr e ↦ absurd (e.1 refl)
  ]

  -- an entry of what lies below a path lies below that path
  pub under_child : (p q : List A) (n : A) → is_under equal p q ≡ true → is_under equal p (n ∷ q) ≡ true
  under_child p q n h = ap (λ b. pointwise equal p (n ∷ q) || b) h ∙ or-true (pointwise equal p (n ∷ q))

  -- if an entry lies below a path and is not that path, its directory lies below the path
  pub under_inner : (p q : List A) (n : A) → pointwise equal p (n ∷ q) ≡ false → is_under equal p (n ∷ q) ≡ true → is_under equal p q ≡ true
  under_inner p q n apart h = sym (ap (λ b. b || is_under equal p q) apart) ∙ h

  -- a list that lies below another is no shorter
  pub under_is_longer : (p q : List A) → is_under equal p q ≡ true → length p ≤ length q
  under_is_longer p [] h = elim (found p []) [
    | inl e ↦ omega (arith, ap length e.1)
    | inr e ↦ absurd (true≢false (sym h ∙ e.0))
  ]
  under_is_longer p (n ∷ q) h = elim (found p (n ∷ q)) [
    | inl e ↦ omega (arith, ap length e.1)
    | inr e ↦ omega (arith, under_is_longer p q (under_inner p q n e.0 h))
  ]

  -- a directory does not lie below its entry
  pub above_is_not_under : (p : List A) (n : A) → is_under equal (n ∷ p) p ≡ false
  above_is_not_under p n = elim (cases_Bool (is_under equal (n ∷ p) p)) [
    | inl h ↦ let longer = under_is_longer (n ∷ p) p h in absurd (omega arith)
    | inr h ↦ h
  ]

  -- different lists are not the same
  pub apart : (p q : List A) → p ≢ q → pointwise equal p q ≡ false
  apart p q other = elim (found p q) [ inl e ↦ absurd (other e.1) | inr e ↦ e.0 ]

  -- a list is the same as itself
  pub same_as_itself : (p : List A) → pointwise equal p p ≡ true
  same_as_itself p = elim (found p p) [ inl e ↦ e.0 | inr e ↦ absurd (e.1 refl) ]
