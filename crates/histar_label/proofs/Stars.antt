-- The test for star decides whether some category has star.
use Rattle.std.proofs.Common.{◌≡◌, ◌≢◌, ◌↔◌, ℕ, Bool, true, false, ◌||◌, IsTrue, refl, sym, ◌∙◌, arith}
use mathlib.Core.Bool.{false≢true}
use Rattle.std.specs.List.{list_any}
use Rattle.std.proofs.lemmas.List.Folds.{Any-from_list_any, list_any-from_Any}
use Rattle.std.proofs.lemmas.Bool.{false_from_ne_true}
use Rattle.histar_level.specs.declared.level.Level.TheVariants.{Star}
use Rattle.histar_level.specs.Level.{is_star}
use Rattle.histar_level.specs.Levels.{Levels, level_of, default_of, exceptions_of, beyond}
use Rattle.histar_level.proofs.Star.{star_from_is_star, is_star_from_star}
use Rattle.histar_level.proofs.Exceptions.{level_of-beyond}
use Rattle.histar_label.specs.Levels.{HasStar, has_star}
use Rattle.histar_label.proofs.Listed.{ListsExceptions-exceptions_of}

-- a default of star is the level of a category beyond all exceptions
star_of_default : (L : Levels) → is_star (default_of L) ≡ true → HasStar L
star_of_default L star = (beyond L, level_of-beyond L (beyond L) (omega arith) ∙ star_from_is_star (default_of L) star)

-- an exception of star is the level of its category
star_of_exception : (L : Levels) → list_any (λ e. is_star e.1) (exceptions_of L) ≡ true → HasStar L
star_of_exception L any =
    let found = Any-from_list_any (λ e. is_star e.1) (exceptions_of L) any in
    let level = ((ListsExceptions-exceptions_of L found.1.0 found.1.1).0 (found.0, found.2, found.3)).0 in
    (found.1.0, level ∙ star_from_is_star found.1.1 found.4)

-- a test that passes finds a category with star
star_there : (L : Levels) (d : Bool) → is_star (default_of L) ≡ d → (d || list_any (λ e. is_star e.1) (exceptions_of L)) ≡ true → HasStar L
star_there L true star h = star_of_default L star
star_there L false star h = star_of_exception L h

-- a category with star makes the test pass: its level is the default, or an exception
star_passes : (L : Levels) (c : ℕ) → level_of L c ≡ Star → (d : Bool) → is_star (default_of L) ≡ d
    → (d || list_any (λ e. is_star e.1) (exceptions_of L)) ≡ true
star_passes L c star true default = refl
star_passes L c star false default =
    let there = (ListsExceptions-exceptions_of L c Star).1 (star, λ is. false≢true (sym default ∙ is_star_from_star (default_of L) (sym is))) in
    list_any-from_Any (λ e. is_star e.1) (exceptions_of L) (there.0, (c, Star), there.1, there.2, is_star_from_star Star refl)

-- the test passes exactly where some category has star
pub has_star-law : (L : Levels) → IsTrue (has_star L) ↔ HasStar L
unfolding has_star
has_star-law L = (star_there L (is_star (default_of L)) refl, λ star. star_passes L star.0 star.1 (is_star (default_of L)) refl)

-- an answer that equals the test decides it
pub star_answer : (L : Levels) (r : Bool) → r ≡ has_star L → IsTrue r ↔ HasStar L
star_answer L r is = rw is (has_star-law L)

-- where no category has star the test fails
pub has_star-none : (L : Levels) → ((c : ℕ) → level_of L c ≢ Star) → has_star L ≡ false
has_star-none L never = false_from_ne_true (has_star L) (λ passed. let star = (has_star-law L).0 passed in never star.0 star.1)
