-- The test of the categories that a label names decides whether each with another level than the default was made.
use Rattle.std.proofs.Common.{◌≡◌, ◌↔◌, ℕ, ◌-◌, ◌<◌, ◌≤◌, Bool, true, false, ◌&&◌, if◌then◌else◌}
use Rattle.std.proofs.Common.{IsTrue, length, get_or, Some, refl, sym, ap, ◌∙◌, arith}
use Rattle.std.specs.List.{list_all}
use Rattle.std.specs.Prelude.{nat_lt, ◌==◌, slice_get}
use Rattle.std.proofs.lemmas.List.{get_or_default}
use Rattle.std.proofs.lemmas.Option.{slice_get_within, get_or_from_slice_get}
use Rattle.std.proofs.lemmas.List.Elements.{All-contains, Contains-get_or}
use Rattle.std.proofs.lemmas.List.Sums.{AllPass-from_list_all, list_all-from_AllPass}
use Rattle.std.proofs.lemmas.Bool.Decides.{nat_tests}
use Rattle.histar_level.specs.declared.level.Level.{Level}
use Rattle.histar_level.specs.declared.level.Level.TheVariants.{Star}
use Rattle.histar_label.specs.Exceptions.{Exceptions, IsRising, category_at}
use Rattle.histar_level.specs.Levels.{Levels, level_of, exceptions_of}
use Rattle.histar_label.specs.Levels.{constant, with_level, NamesOnlyMade, is_made}
use Rattle.histar_label.proofs.Readers.{level_of-constant, level_of-with_level, default_of-constant, default_of-with_level}
use Rattle.histar_label.proofs.Listed.{ListsExceptions-exceptions_of}

-- whether a category is made
abbrev made : ℕ → ℕ → Bool
made next c = nat_lt 0 c && nat_lt c next

-- the test of one category decides whether its number is in range
in_range : (next c : ℕ) (low high : Bool) → nat_lt 0 c ≡ low → nat_lt c next ≡ high → (low && high) ≡ true → (0 < c) × (c < next)
in_range next c true true l h both = (grind (arith, nat_tests), grind (arith, nat_tests))
in_range next c true false l h both = cc
in_range next c false high l h both = cc

-- a number in range passes the test
passes : (next c : ℕ) → (0 < c) × (c < next) → made next c ≡ true
passes next c is =
    let low : nat_lt 0 c ≡ true = grind (arith, nat_tests, is.0) in
    let high : nat_lt c next ≡ true = grind (arith, nat_tests, is.1) in
    rw (low, high) refl

-- the test passes exactly where each category with another level than the default is in range
pub is_made-law : (next : ℕ) (L : Levels) → IsTrue (is_made next L) ↔ NamesOnlyMade next L
unfolding is_made
is_made-law next L = (
  λ all c differs.
      let there = (ListsExceptions-exceptions_of L c (level_of L c)).1 (refl, differs) in
      let passed =
      All-contains (λ e. made next e.0 ≡ true) (exceptions_of L) (c, level_of L c)
      (AllPass-from_list_all (λ e. made next e.0) (exceptions_of L) all) there in
      in_range next c (nat_lt 0 c) (nat_lt c next) refl refl passed,
  λ named. list_all-from_AllPass (λ e. made next e.0) (exceptions_of L) (λ k d lt.
      let e = get_or (exceptions_of L) k d in
      let listed = (ListsExceptions-exceptions_of L e.0 e.1).0 (Contains-get_or (exceptions_of L) k d lt) in
      passes next e.0 (named e.0 (λ is. listed.1 (sym listed.0 ∙ is)))),
)

-- an answer that equals the test decides it
pub made_answer : (next : ℕ) (L : Levels) (r : Bool) → r ≡ is_made next L → IsTrue r ↔ NamesOnlyMade next L
made_answer next L r is = rw is (is_made-law next L)

-- a label with no exception names no category
pub is_made-constant : (next : ℕ) (l : Level) → is_made next (constant l) ≡ true
is_made-constant next l = (is_made-law next (constant l)).1 (λ c differs. absurd (differs (level_of-constant l c ∙ sym (default_of-constant l))))

-- categories that are made stay made as more are made
pub is_made-later : (next later : ℕ) (L : Levels) → next ≤ later → is_made next L ≡ true → is_made later L ≡ true
is_made-later next later L le made =
    (is_made-law later L).1 (λ c differs. let is = (is_made-law next L).0 made c differs in (is.0, omega (arith, is.1)))

-- the level at another category than the changed one is kept, depending on the test of the category
kept_level : (b : Bool) (l m n : Level) → m ≡ (if b then l else n) → b ≡ false → m ≡ n
kept_level true l m n is other = cc
kept_level false l m n is other = is

-- a new level at a category that is made names only categories that are made
pub is_made-with_level : (next : ℕ) (L : Levels) (c : ℕ) (l : Level) → 0 < c → c < next → is_made next L ≡ true
    → is_made next (with_level L c l) ≡ true
is_made-with_level next L c l low high made =
    (is_made-law next (with_level L c l)).1 (λ q differs.
    elim (q == c) as (λ b. (q == c) ≡ b → (0 < q) × (q < next)) [
      | true ↦ λ same. let is : q ≡ c = grind (arith, nat_tests) in (omega arith, omega arith)
      | false ↦ λ other. (is_made-law next L).0 made q (λ is.
          differs (kept_level (q == c) l (level_of (with_level L c l) q) (level_of L q) (level_of-with_level L c l q) other
          ∙ is ∙ sym (default_of-with_level L c l)))
    ] refl)

-- ---- the lowest and the greatest category decide for all

module _ (next : ℕ) (es : Exceptions) (rising : IsRising es) where
  -- each category is between the first and the last
  between : (i : ℕ) → i < length es → (category_at es 0 ≤ category_at es i) × (category_at es i ≤ category_at es (length es - 1))
  between i lt =
      let last = length es - 1 in
      let low : 0 < i → category_at es 0 < category_at es i = λ later. rising 0 i later lt in
      let high : i < last → category_at es i < category_at es last = λ less. rising i last less (omega (arith, lt)) in
      let first : i ≡ 0 → category_at es i ≡ category_at es 0 = λ same. ap (category_at es) same in
      let end : i ≡ last → category_at es i ≡ category_at es last = λ same. ap (category_at es) same in
      (grind (arith, lt, low, first), grind (arith, lt, high, end))

  -- where the first and the last are in range, all are
  all_between : 0 < category_at es 0 → category_at es (length es - 1) < next → list_all (λ e. made next e.0) es ≡ true
  all_between low high = list_all-from_AllPass (λ e. made next e.0) es (λ k d lt.
      let read = get_or_default es k d (0, Star) lt in
      let here = between k lt in
      passes next _ (rw read (omega (arith, here.0, low), omega (arith, here.1, high))))

  -- where all are in range, so is the last
  last_below : 0 < length es → list_all (λ e. made next e.0) es ≡ true → category_at es (length es - 1) < next
  last_below some all =
      let last = length es - 1 in
      let passed = AllPass-from_list_all (λ e. made next e.0) es all last (0, Star) (omega (arith, some)) in
      (in_range next (category_at es last) (nat_lt 0 (category_at es last)) (nat_lt (category_at es last) next) refl refl passed).1

  -- where the first category is in range, the last one decides
  ends_decide : (b all : Bool) → 0 < length es → 0 < category_at es 0 → nat_lt (category_at es (length es - 1)) next ≡ b
      → list_all (λ e. made next e.0) es ≡ all → b ≡ all
  ends_decide true all some low high is = sym (all_between low (grind (arith, nat_tests, high))) ∙ is
  ends_decide false false some low high is = refl
  ends_decide false true some low high is =
      let below = last_below some is in
      absurd (grind (arith, nat_tests, high, below))

  pub made_by_ends : (first last : ℕ × Level) → slice_get es 0 ≡ Some first → slice_get es (length es - 1) ≡ Some last
      → 0 < first.0 → nat_lt last.0 next ≡ list_all (λ e. nat_lt 0 e.0 && nat_lt e.0 next) es
  made_by_ends first last begins ends low =
      let some = slice_get_within es 0 first begins in
      let lowest = ap (λ (e : ℕ × Level). e.0) (get_or_from_slice_get es 0 first (0, Star) begins) in
      let greatest = ap (λ (e : ℕ × Level). e.0) (get_or_from_slice_get es (length es - 1) last (0, Star) ends) in
      let positive : 0 < category_at es 0 = omega (arith, lowest, low) in
      ends_decide (nat_lt last.0 next) _ some positive (ap (λ c. nat_lt c next) greatest) refl
