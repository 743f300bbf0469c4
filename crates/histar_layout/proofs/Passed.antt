-- The categories of a label whose levels pass a test.
use Rattle.std.proofs.Common.{◌≡◌, ℕ, zero, suc, ◌+◌, ◌<◌, ◌≤◌, ◌==◌, ◌||◌, inl, inr, Bool, true, false, cond, Contains, List, [], ◌∷◌, length}
use Rattle.std.proofs.Common.{get_or, arith, refl, sym, ap, ◌∙◌}
use Rattle.std.specs.Prelude.{map}
use Rattle.std.specs.List.{filter}
use Rattle.std.proofs.lemmas.Bool.Decides.{eqb_tells}
use Rattle.std.proofs.lemmas.List.{get_or_default}
use Rattle.std.proofs.lemmas.Bool.{or_left, or_right}
use mathlib.Core.Bool.{true≢false}
use Rattle.histar_level.specs.declared.level.Level.{Level}
use Rattle.histar_level.specs.declared.level.Level.TheVariants.{Star}
use Rattle.histar_level.specs.Levels.{Levels, level_of, default_of, exceptions_of}
use Rattle.histar_label.specs.Exceptions.{IsRising, category_at}
use Rattle.histar_label.proofs.Canonical.{rising_tail}
use Rattle.histar_label.proofs.Listed.{IsRising-exceptions_of, ListsExceptions-exceptions_of}
use Rattle.histar_layout.specs.ClassLabels.{IsRisingFrom}
use Rattle.histar_layout.proofs.Members.{is_in, same_truth, equal_itself}
use Rattle.histar_layout.proofs.Scanning.{passed}

module _ (test : ℕ × Level → Bool) where
  -- the category is listed with a level that passes
  abbrev Passes : List (ℕ × Level) → ℕ → Type 0
  Passes es c = (l : Level) × Contains es (c, l) × (test (c, l) ≡ true)

  -- a category that passes in the rest passes
  passes_later : (x : ℕ × Level) (es : List (ℕ × Level)) (c : ℕ) → Passes es c → Passes (x ∷ es) c
  passes_later x es c found = let low = found.1.1 in (found.0, (suc found.1.0, omega (arith, low), found.1.2), found.2)

  -- a picked category passes, depending on the level of the first one
  passed_by : (x : ℕ × Level) (es more : List (ℕ × Level)) (c : ℕ) → (is_in (map (λ (e : ℕ × Level). e.0) more) c ≡ true → Passes es c)
      → (b : Bool) → test x ≡ b → is_in (map (λ (e : ℕ × Level). e.0) (cond b (x ∷ more) more)) c ≡ true → Passes (x ∷ es) c
  passed_by x es more c rest true passes e = elim (eqb_tells c x.0) [
    | inl k ↦ (x.1, (zero, omega arith, λ i. (sym k.1 i, x.1)), ap (λ (q : ℕ). test (q, x.1)) k.1 ∙ passes)
    | inr k ↦ passes_later x es c (rest (sym (ap (λ b. b || is_in (map (λ (e : ℕ × Level). e.0) more) c) k.0) ∙ e))
  ]
  passed_by x es more c rest false passes e = passes_later x es c (rest e)

  passed_there : (es : List (ℕ × Level)) (c : ℕ) → is_in (passed test es) c ≡ true → Passes es c
  passed_there [] c e = absurd (true≢false (sym e))
  passed_there (x ∷ es) c e = passed_by x es (filter test es) c (passed_there es c) (test x) refl e

  -- a category that is picked from the rest is picked
  passed_later : (x : ℕ × Level) (more : List (ℕ × Level)) (c : ℕ) → is_in (map (λ (e : ℕ × Level). e.0) more) c ≡ true
      → (b : Bool) → is_in (map (λ (e : ℕ × Level). e.0) (cond b (x ∷ more) more)) c ≡ true
  passed_later x more c found true = or_right (c == x.0) _ found
  passed_later x more c found false = found

  -- a category that is listed with a level that passes is picked
  passed_if_there : (es : List (ℕ × Level)) (c : ℕ) (l : Level) → test (c, l) ≡ true → (j : ℕ) → j < length es
      → get_or es j (0, Star) ≡ (c, l) → is_in (passed test es) c ≡ true
  passed_if_there [] c l passes j low at = absurd (omega (arith, low))
  passed_if_there (x ∷ es) c l passes zero low at =
      ap (λ b. is_in (map (λ (e : ℕ × Level). e.0) (cond b (x ∷ filter test es) (filter test es))) c) (ap test at ∙ passes)
      ∙ or_left (c == x.0) _ (ap (λ (e : ℕ × Level). c == e.0) at ∙ equal_itself c)
  passed_if_there (x ∷ es) c l passes (suc j) low at =
      passed_later x (filter test es) c (passed_if_there es c l passes j (omega (arith, low)) at) (test x)

  -- where the default fails the test, the categories that pass are those whose levels pass
  pub in_passed : (L : Levels) → ((c : ℕ) → test (c, default_of L) ≡ false) → (c : ℕ)
      → is_in (passed test (exceptions_of L)) c ≡ test (c, level_of L c)
  in_passed L fails c = same_truth (is_in (passed test (exceptions_of L)) c) (test (c, level_of L c))
      (λ e. let there = passed_there (exceptions_of L) c e in
      ap (λ (l : Level). test (c, l)) ((ListsExceptions-exceptions_of L c there.0).0 there.1).0 ∙ there.2)
      (λ e. let there = (ListsExceptions-exceptions_of L c (level_of L c)).1
      (refl, λ same. true≢false (sym e ∙ ap (λ (l : Level). test (c, l)) same ∙ fails c)) in
      passed_if_there (exceptions_of L) c (level_of L c) e there.0 there.1
      (get_or_default (exceptions_of L) there.0 (0, Star) (c, level_of L c) there.1 ∙ there.2))

  -- the picked ones rise, depending on the test of the first one
  rise_by : (n : ℕ) (x : ℕ × Level) (more : List (ℕ × Level)) (b : Bool) → n ≤ x.0
      → IsRisingFrom (x.0 + 1) (map (λ (e : ℕ × Level). e.0) more) → IsRisingFrom n (map (λ (e : ℕ × Level). e.0) more)
      → IsRisingFrom n (map (λ (e : ℕ × Level). e.0) (cond b (x ∷ more) more))
  rise_by n x more true low later here = (low, later)
  rise_by n x more false low later here = here

  rise_from : (n : ℕ) (es : List (ℕ × Level)) → IsRising es → ((j : ℕ) → j < length es → n ≤ category_at es j) → IsRisingFrom n (passed test es)
  rise_from n [] rising low = tt
  rise_from n (x ∷ es) rising low =
      rise_by n x (filter test es) (test x) (low 0 (omega arith))
      (rise_from (x.0 + 1) es (rising_tail x es rising) (λ j lt. let less = rising 0 (suc j) (omega arith) (omega arith) in omega (arith, less)))
      (rise_from n es (rising_tail x es rising) (λ j lt. low (suc j) (omega arith)))

  -- the categories of a label that pass rise
  pub passed_rise : (L : Levels) → IsRisingFrom 0 (passed test (exceptions_of L))
  passed_rise L = rise_from 0 (exceptions_of L) (IsRising-exceptions_of L) (λ j lt. omega arith)
