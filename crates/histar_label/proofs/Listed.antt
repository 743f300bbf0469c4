-- A label lists each category that has another level than the default, in rising order.
use Rattle.std.proofs.Common.{◌≡◌, ◌≢◌, ℕ, zero, suc, ◌<◌, [], ◌∷◌, length, get_or, Bool, true, false, ◌&&◌, if◌then◌else◌, Contains, Option, Some}
use Rattle.std.proofs.Common.{None, unwrap_or, refl, sym, ap, ◌∙◌, arith}
use Rattle.std.specs.Prelude.{T}
use Rattle.std.specs.Ordering.{nat_cmp, eq_by_cmp, is_lt}
use Rattle.std.specs.FinMap.{find, is_sorted, entries, entries_sorted, get-entries}
use Rattle.std.specs.FinMap.Entries.{below_all}
use Rattle.std.proofs.lemmas.List.{get_or_default}
use Rattle.std.proofs.lemmas.Bool.Decides.{nat_tests}
use Rattle.histar_level.specs.declared.level.Level.{Level}
use Rattle.histar_level.specs.declared.level.Level.TheVariants.{Star}
use Rattle.histar_level.specs.Levels.{Levels, level_of, default_of, exceptions_of, beyond}
use Rattle.histar_level.proofs.Exceptions.{level_of-exceptions, level_of-beyond}
use Rattle.histar_label.specs.Levels.{IsDefault, ListsExceptions}
use Rattle.histar_label.specs.Exceptions.{Exceptions, category_at, IsRising, HasPlace}
use Rattle.histar_label.proofs.Places.{find_at}

-- the first of two tests that both hold
first : (a b : Bool) → T (a && b) → T a
first true b h = tt
first false b h = h

-- the second of two tests that both hold
second : (a b : Bool) → T (a && b) → T b
second true b h = h
second false b h = absurd h

-- the test of the order agrees with the order of numbers
less_from_test : (a b : ℕ) (r : Bool) → is_lt (nat_cmp a b) ≡ r → T r → a < b
less_from_test a b true tested h = grind (arith, nat_tests)
less_from_test a b false tested h = absurd h

-- a category below all of a list is below the one at each place
less_at : (x : ℕ) (es : Exceptions) → T (below_all nat_cmp x es) → (j : ℕ) → j < length es → x < category_at es j
less_at x [] below j lt = absurd (omega arith)
less_at x (e ∷ es) below zero lt = less_from_test x e.0 (is_lt (nat_cmp x e.0)) refl (first (is_lt (nat_cmp x e.0)) (below_all nat_cmp x es) below)
less_at x (e ∷ es) below (suc j) lt = less_at x es (second (is_lt (nat_cmp x e.0)) (below_all nat_cmp x es) below) j (omega arith)

-- a list that passes the test of order rises
rising_from_sorted : (es : Exceptions) → T (is_sorted nat_cmp es) → IsRising es
rising_from_sorted [] sorted i j lt in_range = absurd (omega arith)
rising_from_sorted (e ∷ es) sorted i zero lt in_range = absurd (omega arith)
rising_from_sorted (e ∷ es) sorted zero (suc j) lt in_range =
    less_at e.0 es (first (below_all nat_cmp e.0 es) (is_sorted nat_cmp es) sorted) j (omega arith)
rising_from_sorted (e ∷ es) sorted (suc i) (suc j) lt in_range =
    rising_from_sorted es (second (below_all nat_cmp e.0 es) (is_sorted nat_cmp es) sorted) i j (omega arith)
    (omega arith)

-- the exceptions of a label are in rising order
pub IsRising-exceptions_of : (L : Levels) → IsRising (exceptions_of L)
unfolding exceptions_of
IsRising-exceptions_of L = rising_from_sorted (entries L.others) (entries_sorted L.others)

-- no exception has the default
exception_differs : (L : Levels) (c : ℕ) → find nat_cmp c (exceptions_of L) ≢ Some (default_of L)
unfolding exceptions_of default_of
exception_differs L c found = L.differ c (get-entries L.others c ∙ found)

-- an exception that a search finds is in the list
found_there : (es : Exceptions) (c : ℕ) (l : Level) → find nat_cmp c es ≡ Some l → Contains es (c, l)
found_there [] c l found = cc
found_there (e ∷ es) c l found =
    elim (eq_by_cmp nat_cmp c e.0) as (λ b.
    eq_by_cmp nat_cmp c e.0 ≡ b → (if b then Some e.1 else find nat_cmp c es) ≡ Some l → Contains (e ∷ es) (c, l)) [
      | true ↦ λ tested is.
          let category : e.0 ≡ c = grind (arith, nat_tests) in
          let level : e.1 ≡ l = ap (λ o. unwrap_or o l) is in
          (zero, omega arith, λ i. (category i, level i))
      | false ↦ λ tested is. let rest = found_there es c l is in (suc rest.0, omega arith, rest.2)
    ] refl found

-- in a list that rises a search finds each exception that is there
found_if_there : (es : Exceptions) → IsRising es → (c : ℕ) (l : Level) → Contains es (c, l) → find nat_cmp c es ≡ Some l
found_if_there es rising c l there =
    let at : get_or es there.0 (0, Star) ≡ (c, l) = get_or_default es there.0 (0, Star) (c, l) there.1 ∙ there.2 in
    let place : HasPlace es c there.0 = record { in_range = there.1; has_category = ap (λ e. e.0) at } in
    find_at es rising c there.0 place ∙ ap (λ e. Some e.1) at

-- where a level is found that is not the default, it is the category's
level_where_found : (L : Levels) (c : ℕ) (l : Level) (found : Option Level) → find nat_cmp c (exceptions_of L) ≡ found
    → level_of L c ≡ l → l ≢ default_of L → find nat_cmp c (exceptions_of L) ≡ Some l
level_where_found L c l None none level differs = absurd (differs (sym level ∙ level_of-exceptions L c ∙ ap (λ o. unwrap_or o (default_of L)) none))
level_where_found L c l (Some m) some level differs =
    some ∙ ap Some (sym (ap (λ o. unwrap_or o (default_of L)) some) ∙ sym (level_of-exceptions L c) ∙ level)

-- a label lists each category that has another level than the default, and nothing else
pub ListsExceptions-exceptions_of : (L : Levels) → ListsExceptions L (exceptions_of L)
ListsExceptions-exceptions_of L c l = (
  λ there.
      let found = found_if_there (exceptions_of L) (IsRising-exceptions_of L) c l there in
      (level_of-exceptions L c ∙ ap (λ o. unwrap_or o (default_of L)) found, λ is. exception_differs L c (found ∙ ap Some is)),
  λ is. found_there (exceptions_of L) c l (level_where_found L c l (find nat_cmp c (exceptions_of L)) refl is.0 is.1),
)

-- the default of a label is the level of every category from one on
pub IsDefault-default_of : (L : Levels) → IsDefault L (default_of L)
IsDefault-default_of L = (beyond L, level_of-beyond L)
