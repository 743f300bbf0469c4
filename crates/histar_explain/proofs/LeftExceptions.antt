-- The exceptions of a label that are left, as a pass goes over them by rising category.
use Rattle.std.proofs.Common.{◌≡◌, ◌≢◌, ℕ, ◌+◌, ◌<◌, ◌≤◌, [], ◌∷◌, All, ◌⊎◌, inl, inr, true, false, min, eqb, eq-eqb, if◌then◌else◌, Contains, Option}
use Rattle.std.proofs.Common.{None, Some, refl, sym, ap, ◌∙◌, subst, arith}
use Rattle.std.proofs.lemmas.Bool.Decides.{nat_tests}
use Rattle.std.proofs.lemmas.List.Elements.{All-head, All-tail, All-weaker, All-contains_itself}
use mathlib.Core.Bool.{false≢true}
use Rattle.histar_level.specs.declared.level.Level.{Level}
use Rattle.histar_level.specs.Levels.{Levels, level_of, default_of, exceptions_of}
use Rattle.histar_level.proofs.Exceptions.{level_of-exceptions}
use Rattle.histar_label.specs.Levels.{ListsExceptions}
use Rattle.histar_label.specs.Exceptions.{Exceptions, IsRising as Rises}
use Rattle.histar_label.specs.Front.{first_category, earlier, level_at, after}
use Rattle.histar_label.proofs.Fronts.{IsUnder, looked, level_at_front, level_after, rising_after}

-- an exception that a label has
abbrev pub Differs : Levels → ℕ × Level → Type 0
Differs L e = level_of L e.0 ≢ default_of L

-- these exceptions of a label are left: all from a bound on
pub record IsLeft (L : Levels) (bound : ℕ) (A : Exceptions) : Type 0 where
  pub rises : Rises A
  pub from : IsUnder bound A
  pub differ : All (Differs L) A
  pub has : (q : ℕ) → bound ≤ q → looked (default_of L) A q ≡ level_of L q

-- each exception that a label lists is one
pub each_differs : (L : Levels) (es : Exceptions) → ListsExceptions L es → All (Differs L) es
each_differs L es listed =
    All-weaker (Contains es) (Differs L) (λ e held. let is = (listed e.0 e.1).0 held in λ same. is.1 (sym is.0 ∙ same))
    es (All-contains_itself es)

under_none : (es : Exceptions) → IsUnder 0 es
under_none [] = tt
under_none (e ∷ es) = omega arith

-- before the pass all are left
pub left_at_first : (L : Levels) (A : Exceptions) → Rises A → ListsExceptions L A → A ≡ exceptions_of L → IsLeft L 0 A
left_at_first L A rises listed is = record {
  rises = rises;
  from = under_none A;
  differ = each_differs L A listed;
  has = λ q le. ap (λ es. looked (default_of L) es q) is ∙ sym (level_of-exceptions L q);
}

-- a category before all that are left has the default
level_before : (d : Level) (es : Exceptions) (c q : ℕ) → Rises es → IsUnder c es → q < c → looked d es q ≡ d
level_before d [] c q rises under lt = refl
level_before d (e ∷ es) c q rises under lt =
    let under_q : IsUnder q (e ∷ es) = omega (arith, under) in
    let front = level_at_front d (e ∷ es) rises q under_q in
    let apart : eqb e.0 q ≡ false = grind (arith, nat_tests, under) in
    front ∙ rw apart refl

-- the exceptions left after a category that none comes before come after it
under_after : (es : Exceptions) (c : ℕ) → Rises es → IsUnder c es → IsUnder (c + 1) (after es c)
under_after [] c rises under = tt
under_after (e ∷ es) c rises under = elim (eqb e.0 c) as (λ b. eqb e.0 c ≡ b → IsUnder (c + 1) (if b then es else e ∷ es)) [
  | true ↦ λ same. rest_after e es c rises under
  | false ↦ λ other. let apart : e.0 ≢ c = λ same. false≢true (sym other ∙ eq-eqb e.0 c same) in omega (arith, under)
] refl
  where
    rest_after : (e : ℕ × Level) (es : Exceptions) (c : ℕ) → Rises (e ∷ es) → c ≤ e.0 → IsUnder (c + 1) es
    rest_after e [] c rises under = tt
    rest_after e (f ∷ fs) c rises under = let less = rises 0 1 (omega arith) (omega arith) in omega (arith, less)

-- a property of all exceptions holds of those left after a category
all_after : (P : ℕ × Level → Type 0) (es : Exceptions) (c : ℕ) → All P es → All P (after es c)
all_after P [] c all = all
all_after P (e ∷ es) c all = elim (eqb e.0 c) as (λ b. All P (if b then es else e ∷ es)) [
  | true ↦ All-tail P e es all
  | false ↦ all
]

apart_after : (c q : ℕ) → c + 1 ≤ q → c ≢ q
apart_after c q le same = omega arith

module _ (L : Levels) (bound : ℕ) (A : Exceptions) (left : IsLeft L bound A) where
  -- a category from the bound on, before all that are left, has the default
  pub level_between : (c q : ℕ) → IsUnder c A → bound ≤ q → q < c → level_of L q ≡ default_of L
  level_between c q under from lt = sym (left.has q from) ∙ level_before (default_of L) A c q left.rises under lt

  -- so has each from the bound on, where no exception is left
  pub level_at_end : A ≡ [] → (q : ℕ) → bound ≤ q → level_of L q ≡ default_of L
  level_at_end none q from = sym (left.has q from) ∙ ap (λ es. looked (default_of L) es q) none

  -- the first category that is left has another level
  pub differs_here : (c : ℕ) → first_category A ≡ Some c → level_of L c ≢ default_of L
  differs_here c first = at_first A left.differ first
    where
      at_first : (es : Exceptions) → All (Differs L) es → first_category es ≡ Some c → level_of L c ≢ default_of L
      at_first [] differ first = cc
      at_first (e ∷ es) differ first =
          let is : e.0 ≡ c = cc in
          subst (λ q. level_of L q ≢ default_of L) is (All-head (Differs L) e es differ)

  module _ (c : ℕ) (under : IsUnder c A) (le : bound ≤ c) where
    -- the level at the front is the label's
    pub level_here : level_at A c (default_of L) ≡ level_of L c
    level_here = sym (level_at_front (default_of L) A left.rises c under) ∙ left.has c le

    -- the pass goes on after the front
    pub left_on : IsLeft L (c + 1) (after A c)
    left_on = record {
      rises = rising_after A c left.rises;
      from = under_after A c left.rises under;
      differ = all_after (Differs L) A c left.differ;
      has = λ q from. level_after (default_of L) A c q (apart_after c q from) ∙ left.has q (omega (arith, le, from));
    }

-- the lower of two numbers is one of both
pub lower_is_one : (x y : Option ℕ) (c : ℕ) → earlier x y ≡ Some c → (x ≡ Some c) ⊎ (y ≡ Some c)
lower_is_one None y c e = inr e
lower_is_one (Some a) None c e = inl e
lower_is_one (Some a) (Some b) c e =
    let is : min a b ≡ c = cc in
    elim (min_is_one a b) [
      | inl first ↦ inl (ap Some (sym first ∙ is))
      | inr second ↦ inr (ap Some (sym second ∙ is))
    ]
  where
    min_is_one : (a b : ℕ) → (min a b ≡ a) ⊎ (min a b ≡ b)
    min_is_one a b = grind arith

-- a bound before all exceptions that are left is not above the first of them
pub bound_at_first : (k : ℕ) (A : Exceptions) (c : ℕ) → first_category A ≡ Some c → IsUnder k A → k ≤ c
bound_at_first k [] c first under = absurd cc
bound_at_first k (e ∷ es) c first under = let is : e.0 ≡ c = cc in omega (arith, under)

-- of two numbers the first is lower or not
pub lt_or_le : (m n : ℕ) → (m < n) ⊎ (n ≤ m)
lt_or_le m n = grind arith

-- a number before the next one is before this one or equal to it
pub up_to : (c q : ℕ) → q < c + 1 → (q < c) ⊎ (c ≡ q)
up_to c q lt = grind arith
