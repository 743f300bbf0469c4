-- The level of a category is its exception's, and otherwise the default; from `beyond` on no category is an exception.
use Rattle.std.specs.Prelude.{◌≡◌, ℕ, ◌≤◌, List, [], ◌∷◌, None, unwrap_or, refl}
use Rattle.std.proofs.Common.{ap, ◌∙◌, arith}
use Rattle.std.specs.Ordering.{nat_cmp}
use Rattle.std.specs.FinMap.{get, entries, find, get-entries}
use Rattle.std.proofs.lemmas.Bool.Decides.{nat_tests}
use Rattle.histar_level.specs.declared.level.Level.{Level}
use Rattle.histar_level.specs.Levels.{Levels, level_of, default_of, exceptions_of, above, beyond}

-- a category above all listed ones is not found
pub find_above : (es : List (ℕ × Level)) (q : ℕ) → above es ≤ q → find nat_cmp q es ≡ None
find_above [] q h = refl
find_above (e ∷ es) q h = grind (arith, nat_tests, find_above es q (omega arith))

-- a category above all exceptions has no level of its own
pub no_level_above : (L : Levels) (q : ℕ) → above (entries L.others) ≤ q → get L.others q ≡ None
no_level_above L q h = get-entries L.others q ∙ find_above (entries L.others) q h

-- from `beyond` on each category has the default
pub level_of-beyond : (L : Levels) (q : ℕ) → beyond L ≤ q → level_of L q ≡ default_of L
unfolding level_of beyond default_of
level_of-beyond L q h = ap (λ o. unwrap_or o L.default) (no_level_above L q h)

-- the level of a category is its exception's, and otherwise the default
pub level_of-exceptions : (L : Levels) (c : ℕ) → level_of L c ≡ unwrap_or (find nat_cmp c (exceptions_of L)) (default_of L)
unfolding level_of exceptions_of default_of
level_of-exceptions L c = ap (λ o. unwrap_or o L.default) (get-entries L.others c)

-- from `beyond` on no category is an exception
pub find_beyond : (L : Levels) (c : ℕ) → beyond L ≤ c → find nat_cmp c (exceptions_of L) ≡ None
unfolding exceptions_of beyond
find_beyond L c h = find_above (entries L.others) c h
