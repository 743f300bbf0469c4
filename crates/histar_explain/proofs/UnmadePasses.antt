-- One pass over the exceptions of three labels lists each category that one of them names and that was never made.
use Rattle.std.proofs.Common.{◌≡◌, ◌≢◌, ℕ, ◌+◌, ◌<◌, ◌≤◌, List, [], ◌∷◌, ◌++◌, All, ◌⊎◌, inl, inr, Bool, true, false, ◌||◌, ◌&&◌, eqb, eq-eqb, None}
use Rattle.std.proofs.Common.{Some, refl, sym, ap, ◌∙◌, arith}
use Rattle.std.specs.Prelude.{not}
use Rattle.std.proofs.lemmas.Bool.Decides.{nat_tests}
use Rattle.std.proofs.lemmas.List.Elements.{All-nil, All-head, All-tail, All-push, All-weaker}
use Rattle.std.proofs.lemmas.List.Folds.{list_any-append}
use Rattle.histar_level.specs.Level.{rank}
use Rattle.histar_level.specs.Levels.{Levels, level_of, default_of, exceptions_of}
use Rattle.histar_level.proofs.Ranks.{same_level}
use Rattle.histar_label.specs.Levels.{ListsExceptions, constant}
use Rattle.histar_label.specs.Exceptions.{Exceptions, IsRising as Rises}
use Rattle.histar_label.specs.Front.{first_category, lower, lowest, after}
use Rattle.histar_label.proofs.Fronts.{lowest_under, lowest_none}
use Rattle.std.specs.Prelude.{Result, Ok, Err, IfOk}
use Rattle.std.specs.Global.{Vec}
use Rattle.histar_level.specs.declared.level.Level.TheVariants.{L1}
use Rattle.histar_label.proofs.Readers.{level_of-constant, default_of-constant}
use Rattle.histar_explain.specs.Unmade.{lists, was_made, is_unmade, AreRising, is_among, AreUnmade}
use Rattle.histar_explain.proofs.LeftExceptions.{IsLeft, left_at_first, level_between, level_at_end, differs_here, left_on, lower_is_one}
use Rattle.histar_explain.proofs.LeftExceptions.{bound_at_first, lt_or_le, up_to}

-- a label lists no category at which it has its default
default_not_listed : (L : Levels) (c : ℕ) → level_of L c ≡ default_of L → lists L c ≡ false
default_not_listed L c same = ap not (eq-eqb (rank (level_of L c)) (rank (default_of L)) (ap rank same))

-- and lists each other one
pub other_listed : (L : Levels) (c : ℕ) → level_of L c ≢ default_of L → lists L c ≡ true
other_listed L c differs =
    elim (eqb (rank (level_of L c)) (rank (default_of L))) as
    (λ b. eqb (rank (level_of L c)) (rank (default_of L)) ≡ b → not b ≡ true) [
      | true ↦ λ same. absurd (differs (same_level (level_of L c) (default_of L) (grind (arith, nat_tests, same))))
      | false ↦ λ _. refl
    ] refl

-- Of the exceptions of three labels these are left, from a bound on, and these categories below it were never made.
pub record IsPassed (next : ℕ) (L F S : Levels) (A B C : Exceptions) (cs : List ℕ) : Type 0 where
  pub bound : ℕ
  pub first : IsLeft L bound A
  pub second : IsLeft F bound B
  pub third : IsLeft S bound C
  pub rising : AreRising cs
  pub below : All (λ (c : ℕ). c < bound) cs
  pub exact : (c : ℕ) → c < bound → is_among cs c ≡ is_unmade next (L ∷ F ∷ S ∷ []) c

-- a category that is not below a bound is not among categories that are
not_among : (cs : List ℕ) (bound c : ℕ) → All (λ (d : ℕ). d < bound) cs → bound ≤ c → is_among cs c ≡ false
not_among [] bound c below le = refl
not_among (d ∷ cs) bound c below le =
    let lt = All-head (λ (e : ℕ). e < bound) d cs below in
    let apart : eqb d c ≡ false = grind (arith, nat_tests, lt) in
    let rest = not_among cs bound c (All-tail (λ (e : ℕ). e < bound) d cs below) le in
    λ i. apart i || rest i

-- a category after lower ones keeps a list rising
pushed_rises : (cs : List ℕ) (c : ℕ) → AreRising cs → All (λ (d : ℕ). d < c) cs → AreRising (cs ++ c ∷ [])
pushed_rises [] c rising below = (All-nil (λ (d : ℕ). c < d), tt)
pushed_rises (d ∷ cs) c rising below = (
  All-push (λ (e : ℕ). d < e) cs c rising.0 (All-head (λ (e : ℕ). e < c) d cs below),
  pushed_rises cs c rising.1 (All-tail (λ (e : ℕ). e < c) d cs below),
)

-- a member of a list with one more category
among_pushed : (cs : List ℕ) (c q : ℕ) → is_among (cs ++ c ∷ []) q ≡ (is_among cs q || (eqb c q || false))
among_pushed cs c q = list_any-append (λ d. eqb d q) cs (c ∷ [])

-- three labels that don't list a category don't make it an unmade one
none_listed : (next : ℕ) (L F S : Levels) (c : ℕ) → lists L c ≡ false → lists F c ≡ false → lists S c ≡ false
    → is_unmade next (L ∷ F ∷ S ∷ []) c ≡ false
none_listed next L F S c l f s = λ i. (l i || (f i || (s i || false))) && not (was_made next c)

module _ (next : ℕ) (L F S : Levels) where
  -- before the pass all exceptions are left
  pub passed_at_first : (A B C : Exceptions) → Rises A → Rises B → Rises C → ListsExceptions L A → ListsExceptions F B
      → ListsExceptions S C → A ≡ exceptions_of L → B ≡ exceptions_of F → C ≡ exceptions_of S
      → IsPassed next L F S A B C []
  passed_at_first A B C a b c first second third l f s = record {
    bound = 0;
    first = left_at_first L A a first l;
    second = left_at_first F B b second f;
    third = left_at_first S C c third s;
    rising = tt;
    below = All-nil (λ (d : ℕ). d < 0);
    exact = λ q lt. absurd (omega arith);
  }

  module _ (A B C : Exceptions) (cs : List ℕ) (passed : IsPassed next L F S A B C cs) where
    -- where no exception is left, the list is whole
    pub unmade_at_end : lowest A B C ≡ None → AreUnmade next (L ∷ F ∷ S ∷ []) cs
    unmade_at_end none =
        record {
          rising = passed.rising;
          exact = λ c. elim (lt_or_le c passed.bound) [ inl lt ↦ passed.exact c lt | inr le ↦ beyond c le ];
        }
      where
        beyond : (c : ℕ) → passed.bound ≤ c → is_among cs c ≡ is_unmade next (L ∷ F ∷ S ∷ []) c
        beyond c le =
            let empty = lowest_none A B C none in
            not_among cs passed.bound c passed.below le ∙ sym (none_listed next L F S c
            (default_not_listed L c (level_at_end L passed.bound A passed.first empty.0 c le))
            (default_not_listed F c (level_at_end F passed.bound B passed.second empty.1 c le))
            (default_not_listed S c (level_at_end S passed.bound C passed.third empty.2 c le)))

    module _ (c : ℕ) (low : lowest A B C ≡ Some c) where
      one_of_three : (first_category A ≡ Some c) ⊎ ((first_category B ≡ Some c) ⊎ (first_category C ≡ Some c))
      one_of_three = elim (lower_is_one (first_category A) (lower B C) c low) [
        | inl first ↦ inl first
        | inr later ↦ inr (lower_is_one (first_category B) (first_category C) c later)
      ]

      from_bound : passed.bound ≤ c
      from_bound = elim one_of_three [
        | inl first ↦ bound_at_first passed.bound A c first passed.first.from
        | inr later ↦ elim later [
          | inl second ↦ bound_at_first passed.bound B c second passed.second.from
          | inr third ↦ bound_at_first passed.bound C c third passed.third.from
        ]
      ]

      or_right : (a b : Bool) → b ≡ true → (a || b) ≡ true
      or_right true b h = refl
      or_right false b h = h

      -- the category at the front is listed by one of the labels
      front_listed : (lists L c || (lists F c || (lists S c || false))) ≡ true
      front_listed = elim one_of_three [
        | inl first ↦ ap (λ b. b || (lists F c || (lists S c || false))) (other_listed L c (differs_here L passed.bound A passed.first c first))
        | inr later ↦ or_right (lists L c) _ (elim later [
          | inl second ↦ ap (λ b. b || (lists S c || false)) (other_listed F c (differs_here F passed.bound B passed.second c second))
          | inr third ↦ or_right (lists F c) _ (ap (λ b. b || false) (other_listed S c (differs_here S passed.bound C passed.third c third)))
        ])
      ]

      front_unmade : is_unmade next (L ∷ F ∷ S ∷ []) c ≡ not (was_made next c)
      front_unmade = ap (λ b. b && not (was_made next c)) front_listed

      -- a category before the front is among the list exactly where it was never made
      exact_before : (q : ℕ) → q < c → is_among cs q ≡ is_unmade next (L ∷ F ∷ S ∷ []) q
      exact_before q lt = elim (lt_or_le q passed.bound) [ inl before ↦ passed.exact q before | inr from ↦ between q lt from ]
        where
          between : (q : ℕ) → q < c → passed.bound ≤ q → is_among cs q ≡ is_unmade next (L ∷ F ∷ S ∷ []) q
          between q lt from =
              let under = lowest_under A B C c low in
              not_among cs passed.bound q passed.below from ∙ sym (none_listed next L F S q
              (default_not_listed L q (level_between L passed.bound A passed.first c q under.0 from lt))
              (default_not_listed F q (level_between F passed.bound B passed.second c q under.1 from lt))
              (default_not_listed S q (level_between S passed.bound C passed.third c q under.2 from lt)))

      below_more : (bound : ℕ) → passed.bound ≤ bound → All (λ (d : ℕ). d < bound) cs
      below_more bound le = All-weaker (λ (d : ℕ). d < passed.bound) (λ (d : ℕ). d < bound) (λ d lt. omega (arith, lt, le)) cs passed.below

      or_none : (b : Bool) → (b || (false || false)) ≡ b
      or_none true = refl
      or_none false = refl

      exact_pushed : was_made next c ≡ false → (q : ℕ) → q < c + 1 → is_among (cs ++ c ∷ []) q ≡ is_unmade next (L ∷ F ∷ S ∷ []) q
      exact_pushed unmade q lt = elim (up_to c q lt) [
        | inl before ↦
            let apart : eqb c q ≡ false = grind (arith, nat_tests) in
            among_pushed cs c q ∙ ap (λ b. is_among cs q || (b || false)) apart ∙ or_none (is_among cs q) ∙ exact_before q before
        | inr same ↦
            among_pushed cs c q ∙ or_right (is_among cs q) _ (ap (λ b. b || false) (eq-eqb c q same))
            ∙ sym (ap (is_unmade next (L ∷ F ∷ S ∷ [])) (sym same) ∙ front_unmade ∙ ap not unmade)
      ]

      exact_kept : was_made next c ≡ true → (q : ℕ) → q < c + 1 → is_among cs q ≡ is_unmade next (L ∷ F ∷ S ∷ []) q
      exact_kept made q lt = elim (up_to c q lt) [
        | inl before ↦ exact_before q before
        | inr same ↦
            ap (is_among cs) (sym same) ∙ not_among cs passed.bound c passed.below from_bound
            ∙ sym (ap (is_unmade next (L ∷ F ∷ S ∷ [])) (sym same) ∙ front_unmade ∙ ap not made)
      ]

      -- the pass goes on after a category that was never made
      pub passed_unmade : was_made next c ≡ false → IsPassed next L F S (after A c) (after B c) (after C c) (cs ++ c ∷ [])
      passed_unmade unmade = let under = lowest_under A B C c low in let le = from_bound in record {
        bound = c + 1;
        first = left_on L passed.bound A passed.first c under.0 le;
        second = left_on F passed.bound B passed.second c under.1 le;
        third = left_on S passed.bound C passed.third c under.2 le;
        rising = pushed_rises cs c passed.rising (below_more c le);
        below = All-push (λ (d : ℕ). d < c + 1) cs c (below_more (c + 1) (omega (arith, le))) (omega arith);
        exact = exact_pushed unmade;
      }

      -- and after one that was made
      pub passed_made : was_made next c ≡ true → IsPassed next L F S (after A c) (after B c) (after C c) cs
      passed_made made = let under = lowest_under A B C c low in let le = from_bound in record {
        bound = c + 1;
        first = left_on L passed.bound A passed.first c under.0 le;
        second = left_on F passed.bound B passed.second c under.1 le;
        third = left_on S passed.bound C passed.third c under.2 le;
        rising = passed.rising;
        below = below_more (c + 1) (omega (arith, le));
        exact = exact_kept made;
      }

-- the label that is 1 everywhere lists no category
ones_list_none : (ones : Levels) (c : ℕ) → ones ≡ constant L1 → lists ones c ≡ false
ones_list_none ones c same =
    default_not_listed ones c
    (ap (λ L. level_of L c) same ∙ level_of-constant L1 c ∙ sym (default_of-constant L1) ∙ sym (ap default_of same))

-- so with it the list is that of the other labels
pub unmade_of_both : {E : Type 0} (next : ℕ) (L F ones : Levels) (r : Result (Vec ℕ) E) → ones ≡ constant L1
    → IfOk r (λ (cs : Vec ℕ). AreUnmade next (L ∷ F ∷ ones ∷ []) cs.items)
    → IfOk r (λ (cs : Vec ℕ). AreUnmade next (L ∷ F ∷ []) cs.items)
unmade_of_both next L F ones (Ok cs) same listed =
    record {
      rising = listed.rising;
      exact = λ c. listed.exact c
          ∙ ap (λ b. (lists L c || (lists F c || (b || false))) && not (was_made next c))
          (ones_list_none ones c same);
    }
unmade_of_both next L F ones (Err e) same listed = listed

pub unmade_of_first : {E : Type 0} (next : ℕ) (L ones : Levels) (r : Result (Vec ℕ) E) → ones ≡ constant L1
    → IfOk r (λ (cs : Vec ℕ). AreUnmade next (L ∷ ones ∷ ones ∷ []) cs.items)
    → IfOk r (λ (cs : Vec ℕ). AreUnmade next (L ∷ []) cs.items)
unmade_of_first next L ones (Ok cs) same listed =
    record {
      rising = listed.rising;
      exact = λ c. listed.exact c
          ∙ ap (λ b. (lists L c || (b || (b || false))) && not (was_made next c)) (ones_list_none ones c same);
    }
unmade_of_first next L ones (Err e) same listed = listed
