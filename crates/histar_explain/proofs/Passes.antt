-- One pass over the exceptions of two labels lists each category at which the first is above the second, and each other one.
use Rattle.std.proofs.Common.{◌≡◌, ◌≢◌, ℕ, ◌+◌, ◌<◌, ◌≤◌, List, [], ◌∷◌, ◌++◌, All, ◌⊎◌, inl, inr, Bool, true, false, ◌||◌, eqb, eq-eqb}
use Rattle.std.proofs.Common.{if◌then◌else◌, None, Some, refl, sym, ap, ◌∙◌, arith}
use Rattle.std.specs.Prelude.{not}
use Rattle.std.proofs.lemmas.List.Elements.{All-nil, All-head, All-tail, All-push, All-weaker}
use Rattle.std.proofs.lemmas.List.Folds.{list_any-append}
use mathlib.Core.Bool.{false≢true}
use Rattle.histar_level.specs.Levels.{level_of, default_of, exceptions_of}
use Rattle.histar_label.specs.Levels.{ListsExceptions}
use Rattle.histar_label.specs.Exceptions.{Exceptions, IsRising as Rises}
use Rattle.histar_label.specs.Front.{first_category, lower, level_at, after}
use Rattle.histar_label.proofs.Fronts.{IsUnder, front_under, lower_none}
use Rattle.histar_explain.specs.declared.reasons.Difference.{Difference}
use Rattle.histar_explain.specs.Comparisons.{Comparison, exceeds, fails_at, IsListed, IsRising, is_named, IsDifference, Lists}
use Rattle.histar_explain.proofs.LeftExceptions.{IsLeft, left_at_first, level_between, level_at_end, level_here, differs_here, left_on, lower_is_one}
use Rattle.histar_explain.proofs.LeftExceptions.{bound_at_first, lt_or_le, up_to}

-- a difference after those of lower categories keeps a list rising
pushed_rises : (differences : List Difference) (d : Difference) → IsRising differences
    → All (λ (e : Difference). e.category < d.category) differences → IsRising (differences ++ d ∷ [])
pushed_rises [] d rising below = (All-nil (λ (e : Difference). d.category < e.category), tt)
pushed_rises (e ∷ differences) d rising below = (
  All-push (λ (f : Difference). e.category < f.category) differences d rising.0
      (All-head (λ (f : Difference). f.category < d.category) e differences below),
  pushed_rises differences d rising.1 (All-tail (λ (f : Difference). f.category < d.category) e differences below),
)

or_left : (a b : Bool) → a ≡ true → (a || b) ≡ true
or_left true b h = refl
or_left false b h = cc

or_right : (a b : Bool) → b ≡ true → (a || b) ≡ true
or_right true b h = refl
or_right false b h = h

-- a category that a list names is still named after a difference is added
still_named : (differences : List Difference) (d : Difference) (c : ℕ) → is_named differences c ≡ true → is_named (differences ++ d ∷ []) c ≡ true
still_named differences d c named = list_any-append (λ e. eqb e.category c) differences (d ∷ []) ∙ or_left _ _ named

-- so is the category of that difference
newly_named : (differences : List Difference) (d : Difference) (c : ℕ) → d.category ≡ c → is_named (differences ++ d ∷ []) c ≡ true
newly_named differences d c same =
    list_any-append (λ e. eqb e.category c) differences (d ∷ []) ∙ or_right _ _ (or_left _ _ (eq-eqb d.category c same))

-- the differences so far: they are right, and whole below a bound
pub record ListsBelow (t : Comparison) (fails : Bool) (bound : ℕ) (differences : List Difference) : Type 0 where
  pub rising : IsRising differences
  pub right : All (IsDifference t fails) differences
  pub below : All (λ (d : Difference). d.category < bound) differences
  pub whole : (c : ℕ) → c < bound → IsListed t c → fails_at t c ≡ fails → is_named differences c ≡ true

-- Of the exceptions of two labels these are left, from a bound on, and the differences are those of the others.
pub record IsPassed (t : Comparison) (A B : Exceptions) (named spared : List Difference) : Type 0 where
  pub bound : ℕ
  pub first : IsLeft t.lower bound A
  pub second : IsLeft t.upper bound B
  pub named_so_far : ListsBelow t true bound named
  pub spared_so_far : ListsBelow t false bound spared

-- no difference, below no bound
none_below : (t : Comparison) (fails : Bool) → ListsBelow t fails 0 []
none_below t fails = record {
  rising = tt;
  right = All-nil (IsDifference t fails);
  below = All-nil (λ (d : Difference). d.category < 0);
  whole = λ c lt. absurd (omega arith);
}

-- before the pass all exceptions are left
pub passed_at_first : (t : Comparison) (A B : Exceptions) → Rises A → Rises B → ListsExceptions t.lower A
    → ListsExceptions t.upper B → A ≡ exceptions_of t.lower → B ≡ exceptions_of t.upper → IsPassed t A B [] []
passed_at_first t A B a b first second f s = record {
  bound = 0;
  first = left_at_first t.lower A a first f;
  second = left_at_first t.upper B b second s;
  named_so_far = none_below t true;
  spared_so_far = none_below t false;
}

-- the category at the front, with the levels there
abbrev pub front_difference : Comparison → Exceptions → Exceptions → ℕ → Difference
front_difference t A B c = record { category = c; lower = level_at A c (default_of t.lower); upper = level_at B c (default_of t.upper) }

-- whether the comparison fails at the front
abbrev pub front_fails : Comparison → Exceptions → Exceptions → ℕ → Bool
front_fails t A B c = exceeds t.owner_passes (level_at A c (default_of t.lower)) (level_at B c (default_of t.upper))

-- the differences with one more, if it belongs to them
abbrev pub with_difference : Bool → List Difference → Difference → List Difference
with_difference belongs differences d = if belongs then differences ++ d ∷ [] else differences

module _ (t : Comparison) (A B : Exceptions) (named spared : List Difference) (passed : IsPassed t A B named spared) where
  -- a category from the bound on, before all that are left, is not listed
  gap_not_listed : (c q : ℕ) → IsUnder c A → IsUnder c B → passed.bound ≤ q → q < c → IsListed t q → ⊥
  gap_not_listed c q first second from lt (inl differs) = differs (level_between t.lower passed.bound A passed.first c q first from lt)
  gap_not_listed c q first second from lt (inr differs) = differs (level_between t.upper passed.bound B passed.second c q second from lt)

  -- where no exception is left, no category from the bound on is listed
  end_not_listed : lower A B ≡ None → (q : ℕ) → passed.bound ≤ q → IsListed t q → ⊥
  end_not_listed none q from (inl differs) = differs (level_at_end t.lower passed.bound A passed.first (lower_none A B none).0 q from)
  end_not_listed none q from (inr differs) = differs (level_at_end t.upper passed.bound B passed.second (lower_none A B none).1 q from)

  -- then differences that are whole below the bound are whole
  whole_at_end : lower A B ≡ None → (fails : Bool) (differences : List Difference)
      → ListsBelow t fails passed.bound differences → Lists t fails differences
  whole_at_end none fails differences so_far = record {
    rising = so_far.rising;
    right = so_far.right;
    whole = λ c listed is. elim (lt_or_le c passed.bound) [
      | inl lt ↦ so_far.whole c lt listed is
      | inr le ↦ absurd (end_not_listed none c le listed)
    ];
  }

  pub named_at_end : lower A B ≡ None → Lists t true named
  named_at_end none = whole_at_end none true named passed.named_so_far

  pub spared_at_end : lower A B ≡ None → Lists t false spared
  spared_at_end none = whole_at_end none false spared passed.spared_so_far

module _ (t : Comparison) (A B : Exceptions) (named spared : List Difference) (passed : IsPassed t A B named spared)
    (c : ℕ) (low : lower A B ≡ Some c) where
  first_or_second : (first_category A ≡ Some c) ⊎ (first_category B ≡ Some c)
  first_or_second = lower_is_one (first_category A) (first_category B) c low

  from_bound : passed.bound ≤ c
  from_bound = elim first_or_second [
    | inl first ↦ bound_at_first passed.bound A c first passed.first.from
    | inr second ↦ bound_at_first passed.bound B c second passed.second.from
  ]

  first_under : IsUnder c A
  first_under = (front_under A B c low).0

  second_under : IsUnder c B
  second_under = (front_under A B c low).1

  lower_level : level_at A c (default_of t.lower) ≡ level_of t.lower c
  lower_level = level_here t.lower passed.bound A passed.first c first_under from_bound

  upper_level : level_at B c (default_of t.upper) ≡ level_of t.upper c
  upper_level = level_here t.upper passed.bound B passed.second c second_under from_bound

  front_listed : IsListed t c
  front_listed = elim first_or_second [
    | inl first ↦ inl (differs_here t.lower passed.bound A passed.first c first)
    | inr second ↦ inr (differs_here t.upper passed.bound B passed.second c second)
  ]

  fails_is : front_fails t A B c ≡ fails_at t c
  fails_is = λ i. exceeds t.owner_passes (lower_level i) (upper_level i)

  -- differences that are whole below the bound are whole up to the front, without the front
  whole_before : (fails : Bool) (differences : List Difference) → ListsBelow t fails passed.bound differences → (q : ℕ)
      → q < c → IsListed t q → fails_at t q ≡ fails → is_named differences q ≡ true
  whole_before fails differences so_far q lt listed is = elim (lt_or_le q passed.bound) [
    | inl before ↦ so_far.whole q before listed is
    | inr from ↦ absurd (gap_not_listed t A B named spared passed c q first_under second_under from lt listed)
  ]

  below_next : (differences : List Difference) (bound : ℕ) → passed.bound ≤ bound
      → All (λ (d : Difference). d.category < passed.bound) differences
      → All (λ (d : Difference). d.category < bound) differences
  below_next differences bound le below =
      All-weaker (λ (d : Difference). d.category < passed.bound) (λ (d : Difference). d.category < bound)
      (λ d lt. omega (arith, lt, le)) differences below

  difference_step : (fails belongs : Bool) (differences : List Difference) → ListsBelow t fails passed.bound differences
      → (belongs ≡ true → fails_at t c ≡ fails) → (belongs ≡ false → fails_at t c ≢ fails)
      → ListsBelow t fails (c + 1) (with_difference belongs differences (front_difference t A B c))
  difference_step fails true differences so_far does not_so = let le = from_bound in record {
    rising = pushed_rises differences (front_difference t A B c) so_far.rising (below_next differences c le so_far.below);
    right =
        All-push (IsDifference t fails) differences (front_difference t A B c) so_far.right
        (record { lower = lower_level; upper = upper_level; outcome = does refl; listed = front_listed });
    below =
        All-push (λ (d : Difference). d.category < c + 1) differences (front_difference t A B c)
        (below_next differences (c + 1) (omega (arith, le)) so_far.below) (omega arith);
    whole = λ q lt listed is. elim (up_to c q lt) [
      | inl before ↦ still_named differences (front_difference t A B c) q (whole_before fails differences so_far q before listed is)
      | inr same ↦ newly_named differences (front_difference t A B c) q same
    ];
  }
  difference_step fails false differences so_far does not_so = let le = from_bound in record {
    rising = so_far.rising;
    right = so_far.right;
    below = below_next differences (c + 1) (omega (arith, le)) so_far.below;
    whole = λ q lt listed is. elim (up_to c q lt) [
      | inl before ↦ whole_before fails differences so_far q before listed is
      | inr same ↦ absurd (not_so refl (ap (fails_at t) same ∙ is))
    ];
  }

  not_true : (b : Bool) → not b ≡ true → b ≡ false
  not_true true e = cc
  not_true false e = refl

  not_false : (b : Bool) → not b ≡ false → b ≢ false
  not_false true e same = cc
  not_false false e same = cc

  -- the pass goes on after the front
  pub passed_on : IsPassed t (after A c) (after B c)
      (with_difference (front_fails t A B c) named (front_difference t A B c))
      (with_difference (not (front_fails t A B c)) spared (front_difference t A B c))
  passed_on = record {
    bound = c + 1;
    first = left_on t.lower passed.bound A passed.first c first_under from_bound;
    second = left_on t.upper passed.bound B passed.second c second_under from_bound;
    named_so_far =
        difference_step true (front_fails t A B c) named passed.named_so_far (λ e. sym fails_is ∙ e)
        (λ e same. false≢true (sym e ∙ fails_is ∙ same));
    spared_so_far =
        difference_step false (not (front_fails t A B c)) spared passed.spared_so_far
        (λ e. sym fails_is ∙ not_true (front_fails t A B c) e)
        (λ e same. not_false (front_fails t A B c) e (fails_is ∙ same));
  }
