-- One pass over the exceptions of three labels meets each category that one of them lists. A pass over two is one over three of which the
-- last two are the same.
use Rattle.std.proofs.Common.{◌≡◌, ◌≢◌, ℕ, suc, ◌≤◌, [], ◌∷◌, max, min, is_some, eq-eqb, subst, Option, Some, None, unwrap_or, eqb, true, false, refl}
use Rattle.std.proofs.Common.{sym, ap, ◌∙◌, arith}
use Rattle.std.specs.Ordering.{nat_cmp}
use mathlib.Core.Bool.{false≢true}
use Rattle.std.specs.FinMap.{find}
use Rattle.std.proofs.lemmas.Bool.Decides.{nat_tests}
use Rattle.histar_level.specs.declared.level.Level.{Level}
use Rattle.histar_label.specs.declared.levels.Test.{Test}
use Rattle.histar_label.specs.Level.{Passes}
use Rattle.histar_level.specs.Levels.{Levels, level_of, default_of, exceptions_of, beyond}
use Rattle.histar_level.proofs.Exceptions.{level_of-exceptions, level_of-beyond}
use Rattle.histar_label.specs.Levels.{Fits}
use Rattle.histar_label.specs.Exceptions.{Exceptions, IsRising}
use Rattle.histar_label.specs.Front.{first_category, earlier, lower, lowest, level_at, after}
use Rattle.histar_label.proofs.Canonical.{rising_tail}
use Rattle.histar_label.proofs.Finds.{find_absent}

-- a value that is there is not missing
some_is_there : (a : ℕ) → Some a ≡ None → ⊥
some_is_there a e = false≢true (sym (ap is_some e))

-- no exception comes before a category
abbrev pub IsUnder : ℕ → Exceptions → Type 0
IsUnder c [] = Unit {0}
IsUnder c (e ∷ es) = c ≤ e.0

-- the level that a list gives a category
abbrev pub looked : Level → Exceptions → ℕ → Level
looked d es q = unwrap_or (find nat_cmp q es) d

-- in a list that rises the rest has none of the first categories
none_later : (e : ℕ × Level) (es : Exceptions) → IsRising (e ∷ es) → (c : ℕ) → c ≤ e.0 → find nat_cmp c es ≡ None
none_later e es rising c under =
    find_absent es c (λ j lt same.
    let rises = rising 0 (suc j) (omega arith) (omega arith) in absurd (omega (arith, rises, under, same)))

-- the level at the front is the one that the list gives
pub level_at_front : (d : Level) (es : Exceptions) → IsRising es → (c : ℕ) → IsUnder c es → looked d es c ≡ level_at es c d
level_at_front d [] rising c under = refl
level_at_front d (e ∷ es) rising c under =
    let later = none_later e es rising c under in
    grind (arith, nat_tests, later)

-- another category has the level that it had
pub level_after : (d : Level) (es : Exceptions) (c q : ℕ) → c ≢ q → looked d (after es c) q ≡ looked d es q
level_after d [] c q other = refl
level_after d (e ∷ es) c q other = grind (arith, nat_tests, other)

-- after it the category has the default
pub level_gone : (d : Level) (es : Exceptions) → IsRising es → (c : ℕ) → IsUnder c es → looked d (after es c) c ≡ d
level_gone d [] rising c under = refl
level_gone d (e ∷ es) rising c under =
    let later = none_later e es rising c under in
    grind (arith, nat_tests, later)

-- the exceptions that are left rise
pub rising_after : (es : Exceptions) (c : ℕ) → IsRising es → IsRising (after es c)
rising_after [] c rising = rising
rising_after (e ∷ es) c rising = elim (eqb e.0 c) as (λ b. eqb e.0 c ≡ b → IsRising (after (e ∷ es) c)) [
  | true ↦ λ same. rw same (rising_tail e es rising)
  | false ↦ λ other. rw other rising
] refl

-- a category is not above another, if this is there
abbrev IsUnderFirst : ℕ → Option ℕ → Type 0
IsUnderFirst c None = Unit {0}
IsUnderFirst c (Some d) = c ≤ d

-- a category not above the lower of two is above none of them
under_both : (x y : Option ℕ) (c : ℕ) → IsUnderFirst c (earlier x y) → IsUnderFirst c x × IsUnderFirst c y
under_both None y c h = (tt, h)
under_both (Some a) None c h = (h, tt)
under_both (Some a) (Some b) c h = (omega (arith, h), omega (arith, h))

-- where the lower of two is missing, both are missing
earlier_none : (x y : Option ℕ) → earlier x y ≡ None → (x ≡ None) × (y ≡ None)
earlier_none None y e = (refl, e)
earlier_none (Some a) None e = absurd (some_is_there a e)
earlier_none (Some a) (Some b) e = absurd (some_is_there (min a b) e)

-- no exception comes before a category that is not above the first
under_first : (es : Exceptions) (c : ℕ) → IsUnderFirst c (first_category es) → IsUnder c es
under_first [] c h = tt
under_first (e ∷ es) c h = h

-- a list with no first category is empty
empty_from_none : (es : Exceptions) → first_category es ≡ None → es ≡ []
empty_from_none [] h = refl
empty_from_none (e ∷ es) h = absurd (some_is_there e.0 h)

-- the lower of a category and itself is that category
earlier_same : (x : Option ℕ) → earlier x x ≡ x
earlier_same None = refl
earlier_same (Some a) = ap Some (omega arith)

module _ (A B : Exceptions) where
  -- no exception comes before a category that is not above the lower one
  lower_under : (c : ℕ) → IsUnderFirst c (lower A B) → IsUnder c A × IsUnder c B
  lower_under c h = let both = under_both (first_category A) (first_category B) c h in (under_first A c both.0, under_first B c both.1)

  -- no exception comes before the lower category
  pub front_under : (c : ℕ) → lower A B ≡ Some c → IsUnder c A × IsUnder c B
  front_under c h = let under : IsUnderFirst c (lower A B) = rw h (omega arith) in lower_under c under

  -- where there is none, both lists are empty
  pub lower_none : lower A B ≡ None → (A ≡ []) × (B ≡ [])
  lower_none h = let both = earlier_none (first_category A) (first_category B) h in (empty_from_none A both.0, empty_from_none B both.1)

  -- a list that comes twice doesn't change the lowest category
  pub lower_is_lowest : lowest A B B ≡ lower A B
  lower_is_lowest = ap (earlier (first_category A)) (earlier_same (first_category B))

module _ (A B C : Exceptions) where
  -- no exception comes before the lowest category
  pub lowest_under : (c : ℕ) → lowest A B C ≡ Some c → IsUnder c A × IsUnder c B × IsUnder c C
  lowest_under c h =
      let under : IsUnderFirst c (lowest A B C) = rw h (omega arith) in
      let first = under_both (first_category A) (lower B C) c under in
      let others = lower_under B C c first.1 in
      (under_first A c first.0, others.0, others.1)

  -- where there is none, all three lists are empty
  pub lowest_none : lowest A B C ≡ None → (A ≡ []) × (B ≡ []) × (C ≡ [])
  lowest_none h =
      let first = earlier_none (first_category A) (lower B C) h in
      let others = lower_none B C first.1 in
      (empty_from_none A first.0, others.0, others.1)

-- three lists fit at a category, with the defaults of three labels
abbrev pub FitsAt : Test → Levels → Levels → Levels → Exceptions → Exceptions → Exceptions → ℕ → Type 0
FitsAt test L F S A B C q = Passes test (looked (default_of L) A q) (looked (default_of F) B q) (looked (default_of S) C q)

-- the defaults of three labels fit
abbrev pub DefaultsFit : Test → Levels → Levels → Levels → Type 0
DefaultsFit test L F S = Passes test (default_of L) (default_of F) (default_of S)

-- the levels at the front of three lists fit
abbrev pub FrontFits : Test → Levels → Levels → Levels → Exceptions → Exceptions → Exceptions → ℕ → Type 0
FrontFits test L F S A B C c = Passes test (level_at A c (default_of L)) (level_at B c (default_of F)) (level_at C c (default_of S))

-- These exceptions of three labels are left, and they fit everywhere exactly where the labels do.
pub record IsLeft (test : Test) (L F S : Levels) (A B C : Exceptions) : Type 0 where
  pub first_rises : IsRising A
  pub second_rises : IsRising B
  pub third_rises : IsRising C
  pub whole : ((q : ℕ) → FitsAt test L F S A B C q) → (q : ℕ) → Fits L F S test q
  pub part : ((q : ℕ) → Fits L F S test q) → (q : ℕ) → FitsAt test L F S A B C q

module _ (test : Test) (L F S : Levels) where
  -- where the labels fit everywhere, their defaults fit
  pub defaults_fit : ((q : ℕ) → Fits L F S test q) → DefaultsFit test L F S
  defaults_fit all =
      let far = max (beyond L) (max (beyond F) (beyond S)) in
      rw (sym (level_of-beyond L far (omega arith)), sym (level_of-beyond F far (omega arith)), sym (level_of-beyond S far (omega arith))) (all far)

  -- before the pass everything is left
  pub left_at_first : (A B C : Exceptions) → IsRising A → IsRising B → IsRising C → A ≡ exceptions_of L
      → B ≡ exceptions_of F → C ≡ exceptions_of S → IsLeft test L F S A B C
  left_at_first A B C a b c l f s = record {
    first_rises = a;
    second_rises = b;
    third_rises = c;
    whole = λ all q. rw (at_l q, at_f q, at_s q) (all q);
    part = λ all q. rw (sym (at_l q), sym (at_f q), sym (at_s q)) (all q);
  }
    where
      at_l : (q : ℕ) → level_of L q ≡ looked (default_of L) A q
      at_l q = level_of-exceptions L q ∙ ap (λ es. looked (default_of L) es q) (sym l)

      at_f : (q : ℕ) → level_of F q ≡ looked (default_of F) B q
      at_f q = level_of-exceptions F q ∙ ap (λ es. looked (default_of F) es q) (sym f)

      at_s : (q : ℕ) → level_of S q ≡ looked (default_of S) C q
      at_s q = level_of-exceptions S q ∙ ap (λ es. looked (default_of S) es q) (sym s)

  module _ (A B C : Exceptions) (left : IsLeft test L F S A B C) where
    -- where no exception is left, the labels fit everywhere
    pub all_fit : lowest A B C ≡ None → DefaultsFit test L F S → (q : ℕ) → Fits L F S test q
    all_fit none default_fits =
        let empty = lowest_none A B C none in
        left.whole (λ q. rw (empty.0, empty.1, empty.2) default_fits)

    module _ (c : ℕ) (low : lowest A B C ≡ Some c) where
      -- the levels at the front are those that the lists give the category
      front_is : FitsAt test L F S A B C c ≡ FrontFits test L F S A B C c
      front_is =
          let under = lowest_under A B C c low in
          rw (
            level_at_front (default_of L) A left.first_rises c under.0,
            level_at_front (default_of F) B
                left.second_rises c under.1,
            level_at_front (default_of S) C left.third_rises c under.2,
          ) refl

      -- after the front the category has the defaults
      gone_is : FitsAt test L F S (after A c) (after B c) (after C c) c ≡ DefaultsFit test L F S
      gone_is =
          let under = lowest_under A B C c low in
          rw (
            level_gone (default_of L) A left.first_rises c under.0,
            level_gone (default_of F) B left.second_rises c
                under.1,
            level_gone (default_of S) C left.third_rises c under.2,
          ) refl

      -- another category has the levels that it had
      other_is : (q : ℕ) → c ≢ q → FitsAt test L F S (after A c) (after B c) (after C c) q ≡ FitsAt test L F S A B C q
      other_is q other =
          rw (
            level_after (default_of L) A c q other,
            level_after (default_of F) B c q other,
            level_after
                (default_of S) C c q other,
          ) refl

      -- where the labels fit everywhere, the levels at the front fit
      pub front_fits : ((q : ℕ) → Fits L F S test q) → FrontFits test L F S A B C c
      front_fits all = subst (λ T. T) front_is (left.part all c)

      -- the pass goes on where the defaults and the levels at the front fit
      pub left_after : DefaultsFit test L F S → FrontFits test L F S A B C c → IsLeft test L F S (after A c) (after B c) (after C c)
      left_after default_fits fits = record {
        first_rises = rising_after A c left.first_rises;
        second_rises = rising_after B c left.second_rises;
        third_rises = rising_after C c left.third_rises;
        whole =
            λ all. left.whole (λ q. at_each q (FitsAt test L F S A B C) (subst (λ T. T) (sym front_is) fits)
            (λ other. subst (λ T. T) (other_is q other) (all q)));
        part =
            λ all q. at_each q (FitsAt test L F S (after A c) (after B c) (after C c))
            (subst (λ T. T) (sym gone_is) default_fits)
            (λ other. subst (λ T. T) (sym (other_is q other)) (left.part all q));
      }
        where
          -- a property of the category and of each other is one of each
          at_each : (q : ℕ) (P : ℕ → Type 0) → P c → (c ≢ q → P q) → P q
          at_each q P here there = elim (eqb c q) as (λ b. eqb c q ≡ b → P q) [
            | true ↦ λ same. let is : c ≡ q = grind (arith, nat_tests, same) in subst P is here
            | false ↦ λ differ. there (λ e. false≢true (sym differ ∙ eq-eqb c q e))
          ] refl
