-- Addresses: when two are the same, and which are below which. The test same_step decides whether two steps are equal.
use Rattle.std.proofs.Common.{◌≡◌, ◌≢◌, ◌≤◌, ◌||◌, ◌⊎◌, inl, inr, Bool, true, false, [], ◌∷◌, length, Some, arith, refl, sym, ap, ◌∙◌}
use Rattle.std.proofs.lemmas.Bool.{false_from_ne_true}
use Rattle.std.proofs.Math.Bool.{or-true}
use mathlib.Core.Bool.{true≢false}
use Rattle.histar_container.specs.Tree.{Address, same_steps, under}

-- a test decides whether two values are equal
abbrev pub TestsEquality : {X : Type 0} → (X → X → Bool) → Type 0
TestsEquality test = (x y : _) → ((test x y ≡ true) × (x ≡ y)) ⊎ ((test x y ≡ false) × (x ≢ y))

-- a Some contains one value
pub inner : {X : Type 0} (x y : X) → Some x ≡ Some y → x ≡ y
inner x y e = cc

module _ {X : Type 0} (same_step : X → X → Bool) (decides : TestsEquality same_step) where
  -- the test of addresses decides whether they are equal
  pub same_tests_equality : TestsEquality (same_steps same_step)
  same_tests_equality [] [] = inl (refl, refl)
  same_tests_equality [] (y ∷ b) = inr (refl, λ e. cc)
  same_tests_equality (x ∷ a) [] = inr (refl, λ e. cc)
  same_tests_equality (x ∷ a) (y ∷ b) = elim (decides x y) [
    | inl e ↦ elim (same_tests_equality a b) [
      | inl r ↦ inl (rw (e.0, r.0) refl, rw (e.1, r.1) refl)
      | inr r ↦ inr (rw (e.0, r.0) refl, λ i. let k : a ≡ b = cc in r.1 k)
    ]
    | inr e ↦ inr (rw e.0 refl, λ i. let k : x ≡ y = cc in e.1 k)
  ]

  pub same_itself : (a : Address X) → same_steps same_step a a ≡ true
  same_itself a = elim (same_tests_equality a a) [ inl e ↦ e.0 | inr e ↦ absurd (e.1 refl) ]

  pub same_is : (a b : Address X) → same_steps same_step a b ≡ true → a ≡ b
  same_is a b h = elim (same_tests_equality a b) [ inl e ↦ e.1 | inr e ↦ absurd (true≢false (sym h ∙ e.0)) ]

  pub same_other : (a b : Address X) → a ≢ b → same_steps same_step a b ≡ false
  same_other a b other = elim (same_tests_equality a b) [ inl e ↦ absurd (other e.1) | inr e ↦ e.0 ]

  -- an address is at or below itself
  pub under_itself : (a : Address X) → under same_step a a ≡ true
  under_itself [] = refl
  under_itself (x ∷ a) = rw (same_itself (x ∷ a)) refl

  -- an address one step below one below a is below a
  pub under_child : (a b : Address X) (x : X) → under same_step a b ≡ true → under same_step a (x ∷ b) ≡ true
  under_child a b x h = rw h (or-true (same_steps same_step a (x ∷ b)))

  -- an address below another has no fewer steps
  pub under_long : (a b : Address X) → under same_step a b ≡ true → length a ≤ length b
  under_long a [] h = omega (arith, ap length (same_is a [] h))
  under_long a (y ∷ b) h = elim (same_tests_equality a (y ∷ b)) [
    | inl e ↦ omega (arith, ap length e.1)
    | inr e ↦ let u : under same_step a b ≡ true = sym (ap (λ t. t || under same_step a b) e.0) ∙ h in omega (arith, under_long a b u)
  ]

  -- an address is not below one that is one step below it
  pub above : (a : Address X) (x : X) → under same_step (x ∷ a) a ≡ false
  above a x = false_from_ne_true _ (λ h. let l = under_long (x ∷ a) a h in omega arith)

  -- and differs from it
  pub longer : (x : X) (a : Address X) → x ∷ a ≢ a
  longer x a e = true≢false (sym (under_itself (x ∷ a)) ∙ ap (under same_step (x ∷ a)) e ∙ above a x)

  -- an address that is neither a nor one step below one below a is not below a
  pub under_other : (a b : Address X) (x : X) → a ≢ x ∷ b → under same_step a b ≡ false → under same_step a (x ∷ b) ≡ false
  under_other a b x other h = ap (λ t. t || under same_step a b) (same_other a (x ∷ b) other) ∙ h
