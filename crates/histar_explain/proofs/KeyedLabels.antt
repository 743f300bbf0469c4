-- A label with star at each category at which one of some tests fails.
use Rattle.std.proofs.Common.{◌≡◌, ℕ, List, [], ◌∷◌, ◌++◌, true, false, ◌||◌, is_some, if◌then◌else◌, cond, Option, None, Some, unwrap_or, refl, sym}
use Rattle.std.proofs.Common.{ap, ◌∙◌, arith}
use Rattle.std.specs.Ordering.{nat_cmp, eq_by_cmp}
use Rattle.std.specs.FinMap.{find}
use Rattle.histar_level.specs.declared.level.Level.{Level}
use Rattle.histar_level.specs.declared.level.Level.TheVariants.{Star}
use Rattle.histar_level.specs.Levels.{Levels, level_of, default_of, exceptions_of, above}
use Rattle.histar_level.proofs.Exceptions.{level_of-exceptions, find_above}
use Rattle.histar_label.specs.Levels.{constant, refilled}
use Rattle.histar_label.proofs.Readers.{level_of-constant}
use Rattle.histar_label.specs.Exceptions.{Exceptions}
use Rattle.histar_label.proofs.Combined.{level_of-refilled}
use Rattle.histar_explain.specs.Comparisons.{exceeds}
use Rattle.histar_explain.specs.Tests.{Test}
use Rattle.histar_explain.specs.Laws.{some_fails_at, HasKeys, KeysExist}

-- a category that isn't found in two lists joined is found in neither
none_in_both : (A B : Exceptions) (c : ℕ) → find nat_cmp c (A ++ B) ≡ None → (find nat_cmp c A ≡ None) × (find nat_cmp c B ≡ None)
none_in_both [] B c none = (refl, none)
none_in_both (e ∷ A) B c none =
    elim (eq_by_cmp nat_cmp c e.0) as (λ b. cond b (Some e.1) (find nat_cmp c (A ++ B)) ≡ None
    → (cond b (Some e.1) (find nat_cmp c A) ≡ None) × (find nat_cmp c B ≡ None)) [
      | true ↦ λ found. absurd cc
      | false ↦ none_in_both A B c
    ] none

-- two categories that a label doesn't list have the same level, its default
alike : (L : Levels) (c d : ℕ) → find nat_cmp c (exceptions_of L) ≡ None → find nat_cmp d (exceptions_of L) ≡ None → level_of L c ≡ level_of L d
alike L c d here there =
    level_of-exceptions L c ∙ ap (λ (o : Option Level). unwrap_or o (default_of L)) (here ∙ sym there)
    ∙ sym (level_of-exceptions L d)

-- the exceptions of the labels of some tests
all_listed : List Test → Exceptions
all_listed [] = []
all_listed (t ∷ some) = exceptions_of t.comparison.lower ++ (exceptions_of t.comparison.upper ++ all_listed some)

-- at two categories that the labels don't list, the tests fail alike
fail_alike : (some : List Test) (c d : ℕ) → find nat_cmp c (all_listed some) ≡ None
    → find nat_cmp d (all_listed some) ≡ None → some_fails_at some c ≡ some_fails_at some d
unfolding all_listed
fail_alike [] c d here there = refl
fail_alike (t ∷ some) c d here there =
    let first = none_in_both (exceptions_of t.comparison.lower) _ c here in
    let second = none_in_both (exceptions_of t.comparison.upper) (all_listed some) c first.1 in
    let first' = none_in_both (exceptions_of t.comparison.lower) _ d there in
    let second' = none_in_both (exceptions_of t.comparison.upper) (all_listed some) d first'.1 in
    let lower = alike t.comparison.lower c d first.0 first'.0 in
    let upper = alike t.comparison.upper c d second.0 second'.0 in
    let rest = fail_alike some c d second.1 second'.1 in
    λ i. exceeds t.comparison.owner_passes (lower i) (upper i) || rest i

module _ (some : List Test) (own : Levels) where
  -- star where a test fails, and otherwise the old level
  with_key : ℕ → Level
  with_key c = if some_fails_at some c then Star else level_of own c

  listed : Exceptions
  listed = exceptions_of own ++ all_listed some

  far : ℕ
  far = above listed

  keyed : Levels
  keyed = refilled with_key listed (constant (with_key far))

  same_key : (c : ℕ) → find nat_cmp c listed ≡ None → with_key far ≡ with_key c
  unfolding with_key listed far
  same_key c none =
      let at_far = none_in_both (exceptions_of own) (all_listed some) (above listed) (find_above listed (above listed) (omega arith)) in
      let here = none_in_both (exceptions_of own) (all_listed some) c none in
      let fails = fail_alike some (above listed) c at_far.1 here.1 in
      let level = alike own (above listed) c at_far.0 here.0 in
      λ i. if fails i then Star else level i

  by_found : (o : Option Level) (c : ℕ) → (o ≡ None → with_key far ≡ with_key c) → (if is_some o then with_key c else with_key far) ≡ with_key c
  by_found None c same = same refl
  by_found (Some l) c same = refl

  keyed_level : (c : ℕ) → level_of keyed c ≡ with_key c
  unfolding keyed
  keyed_level c =
      level_of-refilled with_key listed (constant (with_key far)) c
      ∙ ap (λ l. if is_some (find nat_cmp c listed) then with_key c else l) (level_of-constant (with_key far) c)
      ∙ by_found (find nat_cmp c listed) c (same_key c)

  has_keys : HasKeys some own keyed
  unfolding with_key
  has_keys = record {
    owned = λ c failing. keyed_level c ∙ ap (λ b. if b then Star else level_of own c) failing;
    others = λ c passing. keyed_level c ∙ ap (λ b. if b then Star else level_of own c) passing;
  }

pub keys_exist : KeysExist
keys_exist some own = (keyed some own, has_keys some own)
