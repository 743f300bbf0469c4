-- The only category that a label has at some level is found among its exceptions.
use Rattle.std.proofs.Common.{◌≡◌, ◌≢◌, ℕ, zero, suc, Bool, true, false, ◌||◌, List, [], ◌∷◌, Some, Contains, arith, refl, sym, ap, if◌then◌else◌}
use Rattle.std.specs.Prelude.{option_map}
use Rattle.std.specs.List.{find, list_any}
use Rattle.std.proofs.lemmas.List.Folds.{list_any-from_Any}
use mathlib.Core.Bool.{true≢false}
use Rattle.histar_level.specs.declared.level.Level.{Level}
use Rattle.histar_level.specs.Levels.{Levels, level_of, default_of, exceptions_of}
use Rattle.histar_label.proofs.Listed.{ListsExceptions-exceptions_of}

module _ (test : ℕ × Level → Bool) (c : ℕ) where
  -- by whether the first exception passes
  found_first : (e : ℕ × Level) (es : List (ℕ × Level)) (b : Bool) → test e ≡ b → (test e ≡ true → e.0 ≡ c) → (b || list_any test es) ≡ true
      → (list_any test es ≡ true → option_map (λ (x : ℕ × Level). x.0) (find test es) ≡ Some c)
      → option_map (λ (x : ℕ × Level). x.0) (if b then Some e else find test es) ≡ Some c
  found_first e es true is first any later = ap Some (first is)
  found_first e es false is first any later = later any

  -- where some exception passes, and each that does is of this category, the category is found
  only_found : (es : List (ℕ × Level)) → ((e : ℕ × Level) → Contains es e → test e ≡ true → e.0 ≡ c)
      → list_any test es ≡ true → option_map (λ (e : ℕ × Level). e.0) (find test es) ≡ Some c
  only_found [] only any = absurd (true≢false (sym any))
  only_found (e ∷ es) only any =
      found_first e es (test e) refl (only e (zero, omega arith, refl)) any (only_found es (λ x at. only x (suc at.0, omega (arith, at.1), at.2)))

  -- the only category that passes a test is found in a label whose default is another level than the category's
  pub found_in_label : (L : Levels) (l : Level) → level_of L c ≡ l → l ≢ default_of L → test (c, l) ≡ true
      → ((d : ℕ) (m : Level) → level_of L d ≡ m → test (d, m) ≡ true → d ≡ c)
      → option_map (λ (e : ℕ × Level). e.0) (find test (exceptions_of L)) ≡ Some c
  found_in_label L l at differs passes only =
      let there = (ListsExceptions-exceptions_of L c l).1 (at, differs) in
      only_found (exceptions_of L) (λ e contains tested. only e.0 e.1 ((ListsExceptions-exceptions_of L e.0 e.1).0 contains).0 tested)
      (list_any-from_Any test (exceptions_of L) (there.0, (c, l), there.1, there.2, passes))
